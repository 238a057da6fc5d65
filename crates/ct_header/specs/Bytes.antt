-- Header words with another byte.
use Rattle.std.specs.Prelude.{ℕ, List, slice_set}
use Rattle.std.specs.Int.{w64, to_le_bytes}

-- the bytes of a word, with one of them set
abbrev pub with_byte : ℕ → ℕ → ℕ → List ℕ
with_byte w i b = slice_set (to_le_bytes w64 w) i b
