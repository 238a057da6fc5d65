-- When two images stand for the same, whatever lies where nothing is looked at.
use Rattle.std.specs.Prelude.{◌≡◌, ℕ, List}
use Rattle.ct_base.specs.Walk.{AreTables}
use Rattle.ct_base.specs.View.{view, inode_count}
use Rattle.ct_base.specs.Rules.{mapped, HoldsAt}

-- what the two images have in common
pub record Alike (f g : List ℕ) : Type 0 where
  pub bytes : view g ≡ view f
  pub inodes : inode_count g ≡ inode_count f

pub record IsWhole (f : List ℕ) : Type 0 where
  pub tables : AreTables f
  pub mapped : HoldsAt f mapped
