-- Past the size of a file lie zeros, up to the end of its partition.
use Rattle.std.proofs.Common.{◌≡◌, ℕ, ◌+◌, ◌<◌, ◌≤◌, Bool, true, false, List, refl, arith}
use Rattle.std.specs.Prelude.{nat_lt, if◌then◌else◌}
use Rattle.ct_base.specs.Inode.{inode, part_bytes}
use Rattle.ct_base.specs.Objects.{content}
use Rattle.ct_base.specs.Rules.{Owns, Sound, tails}
use Rattle.ct_base.specs.View.{view, inode_count}

or_zero : (b : Bool) (n : ℕ) → n ≡ 0 → (if b then n else 0) ≡ 0
or_zero true n is = is
or_zero false n is = refl

pub zeros_past : (img : List ℕ) (i size k : ℕ) → Sound img → Owns (view img) (inode_count img) i → size ≤ part_bytes (inode (view img) i).level
    → (inode (view img) i).size ≤ k → k < size → content (view img) (inode (view img) i).base size k ≡ 0
zeros_past img i size k sound owns fits past below =
    or_zero (nat_lt k size) (view img ((inode (view img) i).base + k)) (sound tails i owns k past (omega (arith, fits, below)))
