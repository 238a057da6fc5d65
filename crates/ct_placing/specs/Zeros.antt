-- Stretches of words that are 0.
use Rattle.std.specs.Prelude.{◌≡◌, ℕ, ◌+◌, ◌%◌, ◌<◌, ◌≤◌, List}
use Rattle.ct_base.specs.Inode.{part_bytes}
use Rattle.ct_base.specs.declared.inode.Inode.{Inode}
use Rattle.ct_words.specs.Shown.{shown_word}

-- the words from an address to the one before another are 0
abbrev pub AreZero : List ℕ → ℕ → ℕ → Type 0
AreZero img from to = (x : ℕ) → from ≤ x → x < to → x % 8 ≡ 0 → shown_word img x ≡ 0

-- the bytes of an inode's partition past its size are 0
abbrev pub IsTailZero : (ℕ → ℕ) → Inode → Type 0
IsTailZero b f = (k : ℕ) → f.size ≤ k → k < part_bytes f.level → b (f.base + k) ≡ 0
