use Rattle.ct_find.proofs.Leading.{file_at, no_file_at}
use Rattle.ct_find.proofs.file.find_file.Goals as goal

pub returns-then-inode-eq-DIRECTORY_KIND : goal.returns-then-inode-eq-DIRECTORY_KIND
returns-then-inode-eq-DIRECTORY_KIND g c = no_file_at c.requires.rest c.in-Ok.ensures c.if-inode-eq-DIRECTORY_KIND.true

pub returns : goal.returns
returns g c = file_at c.requires.rest c.in-Ok.ensures c.if-inode-eq-DIRECTORY_KIND.false
