use Rattle.ct_dir.specs.Directory.{name_in}
use Rattle.ct_look.proofs.Looking.{dir_readable, list_file, next_there, none_there}
use Rattle.ct_look.proofs.look.next_at.Goals as goal

pub returns-then-inode-ne-DIRECTORY_KIND : goal.returns-then-inode-ne-DIRECTORY_KIND
returns-then-inode-ne-DIRECTORY_KIND g c = λ t s. list_file c.requires.rest c.in_ok-inode.ensures t s c.if-inode-ne-DIRECTORY_KIND.true

pub next_after-requires : goal.next_after-requires
next_after-requires g c = dir_readable c.requires.rest c.in_ok-inode.ensures c.if-inode-ne-DIRECTORY_KIND.false

pub name_at-requires-clause-readable : goal.name_at-requires-clause-readable
name_at-requires-clause-readable g c = dir_readable c.requires.rest c.in_ok-inode.ensures c.if-inode-ne-DIRECTORY_KIND.false

pub returns-in-Some : goal.returns-in-Some
returns-in-Some g c = λ t s.
    next_there c.requires.rest c.in_ok-inode.ensures t s c.if-inode-ne-DIRECTORY_KIND.false (name_in c.args.after) c.in-Some.found.offset c.name_at.result.items c.name_at.ensures c.in-Some.ensures.next

pub returns-in-None : goal.returns-in-None
returns-in-None g c = λ t s. none_there c.requires.rest c.in_ok-inode.ensures t s c.if-inode-ne-DIRECTORY_KIND.false (name_in c.args.after) c.in-None.ensures.none
