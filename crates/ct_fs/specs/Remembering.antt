-- What a mount remembers of its device is so.
use Rattle.std.specs.Prelude.{List, ℕ}
use Rattle.ct_inode.specs.Live.{AreLiveBelow}
use Rattle.ct_learn.specs.Learning.{IsSo}
use Rattle.ct_fs.specs.declared.remembered.Remembered.{Remembered}

-- each name and page that was learnt is what the search and the walk answer, and every inode below the number is live
pub record IsRemembered (words : List ℕ) (remembered : Remembered) : Type 0 where
  pub learnt : IsSo remembered.learnt words
  pub live : AreLiveBelow words remembered.free_from
