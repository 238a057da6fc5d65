-- Names as words: eight bytes in a word, the lowest first, and zeros past the end of the name.
use Rattle.std.specs.Prelude.{ℕ, zero, suc, ◌+◌, ◌*◌, ◌^◌, List, [], ◌∷◌, length, replicate, slice_index}
use Rattle.ct_base.specs.declared.layout.TheConstants.{ENTRY_WORDS}
use Rattle.ct_base.specs.Inode.{little}
use Rattle.ct_dir.specs.declared.names.TheConstants.{NAME_WORDS}

-- n words of a text from byte o on
unfoldable pub words_from : List ℕ → ℕ → ℕ → List ℕ
words_from x o zero = []
words_from x o (suc n) = little (slice_index x) o 8 ∷ words_from x (o + 8) n

-- the words of a name
unfoldable pub name_words : List ℕ → List ℕ
name_words x = words_from x 0 NAME_WORDS

-- the words of the slot of a name and the inode that it names
unfoldable pub slot_words : ℕ → List ℕ → List ℕ
slot_words inode x = (inode + 2 ^ 32 * length x) ∷ name_words x

-- the words of an empty slot
unfoldable pub empty_words : List ℕ
empty_words = replicate ENTRY_WORDS 0
