-- An image lands on a tree where it is sound once settled, and stands for the tree then.
use Rattle.std.specs.Prelude.{ℕ, List}
pub use Rattle.ct_base.specs.Head.{HasHead}
use Rattle.ct_base.specs.View.{view, inode_count}
use Rattle.ct_base.specs.Objects.{Object, objects}
use Rattle.ct_base.specs.Rules.{Sound}
use Rattle.ct_base.specs.Settled.{settled}
use Rattle.ct_tree.specs.Tree.{Tree}
use Rattle.ct_tree.specs.Stands.{Stands}

-- the objects of an image
abbrev pub files : List ℕ → ℕ → Object
files img = objects (view img) (inode_count img)

pub record Lands (img : List ℕ) (t : Tree) : Type 0 where
  pub head : HasHead img
  pub sound : Sound (settled img)
  pub stands : Stands (files (settled img)) 1 t
