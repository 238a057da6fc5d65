use Rattle.ct_look.proofs.Looking.{dir_readable, stat_dir, stat_file}
use Rattle.ct_look.proofs.look.stat_at.Goals as goal

pub entries-requires : goal.entries-requires
entries-requires g c = dir_readable c.requires.rest c.in_ok-inode.ensures c.if-inode-eq-DIRECTORY_KIND.true

pub returns-then-inode-eq-DIRECTORY_KIND : goal.returns-then-inode-eq-DIRECTORY_KIND
returns-then-inode-eq-DIRECTORY_KIND g c = λ t s. stat_dir c.requires.rest c.in_ok-inode.ensures t s c.if-inode-eq-DIRECTORY_KIND.true c.entries.result c.entries.ensures

pub returns : goal.returns
returns g c = λ t s. stat_file c.requires.rest c.in_ok-inode.ensures t s c.if-inode-eq-DIRECTORY_KIND.false
