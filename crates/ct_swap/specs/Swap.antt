-- The pairs that exchange two ranges of virtual pages.
use Rattle.std.specs.Prelude.{◌≡◌, ◌≢◌, ℕ, ◌+◌, ◌*◌, ◌<◌, ◌≤◌, List, [], ◌∷◌, ◌++◌}
use Rattle.ct_base.specs.declared.layout.TheConstants.{PAGE_WORDS, TABLE_ENTRIES}
use Rattle.ct_base.specs.Exchange.{entry_at}
use Rattle.ct_base.specs.Settled.{Pair, Named}
use Rattle.ct_base.specs.Walk.{word, page_at}

-- the word is an entry of the root table or of a table that is reached from it
pub record IsEntry (img : List ℕ) (w : ℕ) : Type 0 where
  pub depth : ℕ
  pub number : ℕ
  pub index : ℕ
  pub few : depth ≤ 3
  pub small : index < TABLE_ENTRIES
  pub there : page_at img depth number ≢ 0
  pub is : w ≡ page_at img depth number * PAGE_WORDS + index

-- no pair names such a word
abbrev pub LeaveTables : List ℕ → List Pair → Type 0
LeaveTables img pairs = (w : ℕ) → Named pairs w → IsEntry img w → ⊥

-- the two pairs of a piece of a height at virtual pages p and q: each entry gets the other's word
abbrev pub first_pair : List ℕ → ℕ → ℕ → ℕ → Pair
first_pair img p q h = record { word = entry_at img p h; value = word img (entry_at img q h) }

abbrev pub second_pair : List ℕ → ℕ → ℕ → ℕ → Pair
second_pair img p q h = record { word = entry_at img q h; value = word img (entry_at img p h) }

-- the pairs of all pieces, the newest first
abbrev pub swap_pairs : List ℕ → ℕ → ℕ → List (ℕ × ℕ) → List Pair
swap_pairs img a b [] = []
swap_pairs img a b (piece ∷ pieces) =
    swap_pairs img a b pieces ++ second_pair img (a + piece.0) (b + piece.0) piece.1 ∷ first_pair img (a + piece.0) (b + piece.0) piece.1 ∷ []

-- no two pairs name one word
abbrev pub AreDistinct : List Pair → Type 0
AreDistinct [] = Unit {0}
AreDistinct (pair ∷ pairs) = (Named pairs pair.word → ⊥) × AreDistinct pairs
