use Rattle.std.proofs.Common.{arith}
use Rattle.ct_look.proofs.Looking.{level_small, locate_dir, locate_file}
use Rattle.ct_look.proofs.look.locate_at.Goals as goal

pub returns-then-inode-eq-DIRECTORY_KIND : goal.returns-then-inode-eq-DIRECTORY_KIND
returns-then-inode-eq-DIRECTORY_KIND g c = λ t s. locate_dir c.requires.rest c.in_ok-inode.ensures t s c.if-inode-eq-DIRECTORY_KIND.true

pub overflow_cast-result : goal.overflow_cast-result
overflow_cast-result g c = omega (arith, level_small c.requires.rest c.in_ok-inode.ensures)

pub returns : goal.returns
returns g c = λ t s. locate_file c.requires.rest c.in_ok-inode.ensures t s c.if-inode-eq-DIRECTORY_KIND.false
