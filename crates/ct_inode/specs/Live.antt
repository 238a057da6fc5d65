-- Which inodes are live.
use Rattle.std.specs.Prelude.{ℕ, ◌<◌, ◌≤◌, List}
use Rattle.ct_base.specs.Inode.{IsLive}
use Rattle.ct_base.specs.View.{view, inode_count}

-- every inode below a number is live
abbrev pub AreLiveBelow : List ℕ → ℕ → Type 0
AreLiveBelow img n = (i : ℕ) → 1 ≤ i → i < n → IsLive (view img) (inode_count img) i

-- each inode that was live is live
abbrev pub KeepsLive : List ℕ → List ℕ → Type 0
KeepsLive old new = (i : ℕ) → IsLive (view old) (inode_count old) i → IsLive (view new) (inode_count new) i
