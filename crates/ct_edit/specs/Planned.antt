-- What is known when the change of a file is planned.
use Rattle.std.specs.Prelude.{ℕ, List}
use Rattle.ct_base.specs.declared.inode.Inode.{Inode}
use Rattle.ct_base.specs.Headers.{StandFor}
use Rattle.ct_base.specs.Inode.{live_parts}
use Rattle.ct_base.specs.Rules.{IsPlaced}
use Rattle.ct_base.specs.View.{view, inode_count}
use Rattle.ct_base.specs.Walk.{AreTables}

-- the tables are well formed, the headers stand for the live partitions, and the inode lies where one may
pub record CanPlan (img : List ℕ) (f : Inode) : Type 0 where
  pub tables : AreTables img
  pub stand : StandFor (view img) (live_parts (view img) (inode_count img))
  pub placed : IsPlaced f
