-- What the record of a cut to nothing does.
use Rattle.std.specs.Prelude.{ℕ, ◌+◌, ◌*◌, List, [], ◌∷◌}
use Rattle.ct_base.specs.declared.layout.TheConstants.{INODE_BYTES, NO_PARTITION}
use Rattle.ct_base.specs.Inode.{inode, part}
use Rattle.ct_base.specs.View.{view}
use Rattle.ct_base.specs.Words.{Rewrites}
use Rattle.ct_cut.specs.GivenUp.{GivesUp}

-- Size and base of inode i are 0 and its level says that it has no partition, and then its partition is given up.
pub record Emptied (old new : List ℕ) (i : ℕ) : Type 0 where
  pub middle : List ℕ
  pub extent : Rewrites old middle (INODE_BYTES * i + 8) (0 ∷ 0 ∷ NO_PARTITION ∷ [])
  pub gives : GivesUp middle new (part (inode (view old) i))
