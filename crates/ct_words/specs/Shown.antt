-- Words of an image by address, as the bytes there show them.
use Rattle.std.specs.Prelude.{ℕ, ◌%◌, ◌^◌, List}
use Rattle.ct_base.specs.Words.{word_at}

-- the word at an address, by its eight bytes
abbrev pub shown_word : List ℕ → ℕ → ℕ
shown_word img a = word_at img a % 2 ^ 64
