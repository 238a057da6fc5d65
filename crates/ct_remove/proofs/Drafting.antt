-- A draft goes on: what is read of the tables stays, and which words its pairs name.
use Rattle.std.proofs.Common.{◌≡◌, ℕ, zero, suc, ◌+◌, ◌*◌, ◌/◌, ◌%◌, List, ◌++◌, ap, inl, inr, ◌⊎◌, arith}
use Rattle.ct_base.specs.Settled.{Named, Pair}
use Rattle.ct_base.specs.Walk.{page_at, AreTables}
use Rattle.ct_base.specs.Words.{pairs_to, place_at}
use Rattle.ct_image.proofs.Beside.{beside_cells, beside_tables}
use Rattle.ct_pm.specs.Device.{IsIn}
use Rattle.ct_record.specs.declared.draft.Draft.{Draft}
use Rattle.ct_record.specs.Seen.{Drafts, words_under}
use Rattle.ct_record.proofs.Under.{under_beside}

pub cells_on : {D : Type 0} {bound : _} {old new : Draft D bound} → Drafts old new → (d x : ℕ) → page_at (words_under new) d x ≡ page_at (words_under old) d x
cells_on {old = old} {new = new} drafts d x = beside_cells (under_beside (words_under old) (words_under new) drafts.same) d x

pub tables_on : {D : Type 0} {bound : _} {old new : Draft D bound} → Drafts old new → AreTables (words_under old) → AreTables (words_under new)
tables_on {old = old} {new = new} drafts tables = beside_tables (under_beside (words_under old) (words_under new) drafts.same) tables

pub place_on : {D : Type 0} {bound : _} {old new : Draft D bound} → Drafts old new → (a : ℕ) → place_at (words_under new) a ≡ place_at (words_under old) a
place_on drafts a = ap (λ p. p * 512 + a % 4096 / 8) (cells_on drafts 4 (a / 4096))

-- a word that pairs name is one of theirs, or was named before
pub named_to : (place : ℕ) (values : List ℕ) (n : ℕ) (pairs : List Pair) (word : ℕ) → Named (pairs_to place values n ++ pairs) word → IsIn place n word ⊎ Named pairs word
named_to place values zero pairs word named = inr named
named_to place values (suc n) pairs word (inl is) = inl (omega arith, omega arith)
named_to place values (suc n) pairs word (inr later) = elim (named_to place values n pairs word later) [
  | inl inside ↦ inl (inside.0, omega (arith, inside.1))
  | inr before ↦ inr before
]
