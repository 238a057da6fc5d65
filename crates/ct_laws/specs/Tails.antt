-- An object of an image whose size alone is raised.
use Rattle.std.specs.Prelude.{◌≡◌, ℕ, ◌<◌, ◌≤◌, List}
use Rattle.ct_base.specs.Inode.{inode, part_bytes}
use Rattle.ct_base.specs.Objects.{content}
use Rattle.ct_base.specs.Rules.{Owns, Sound}
use Rattle.ct_base.specs.View.{view, inode_count}

-- its bytes from the old size to the new one are 0
abbrev pub ReadsZerosPastItsSize : Type 0
ReadsZerosPastItsSize =
    (img : List ℕ) → (i size k : ℕ) → Sound img → Owns (view img) (inode_count img) i → size ≤ part_bytes (inode (view img) i).level
    → (inode (view img) i).size ≤ k → k < size → content (view img) (inode (view img) i).base size k ≡ 0
