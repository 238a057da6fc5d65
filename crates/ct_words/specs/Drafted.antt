-- Words that are changed by the pairs of a draft.
use Rattle.std.specs.Prelude.{◌≡◌, ◌⊎◌, ℕ, ◌/◌, ◌≤◌, List, ◌++◌}
use Rattle.ct_base.specs.declared.layout.TheConstants.{SLOT_PAGES}
use Rattle.ct_base.specs.Settled.{Named, Pair, with_pairs}
use Rattle.ct_base.specs.Walk.{page_at, page_count, AreTables}
use Rattle.ct_base.specs.Words.{pairs_to}
use Rattle.ct_pm.specs.Device.{IsIn, SameOff}
use Rattle.ct_record.specs.Record.{InRecord}

-- The tables are well formed before the pairs and after them, and the pages of a root slot are the same.
pub record MapsAlike (slot : ℕ) (img changed : List ℕ) : Type 0 where
  pub tables : AreTables img
  pub after : AreTables changed
  pub count : page_count changed ≡ page_count img
  pub same : (n : ℕ) → n / SLOT_PAGES ≡ slot → page_at changed 4 n ≡ page_at img 4 n

-- each page of an address and each table stays
abbrev pub KeepsCells : List ℕ → List ℕ → Type 0
KeepsCells old new = (d x : ℕ) → d ≤ 4 → page_at new d x ≡ page_at old d x

-- The pairs do what the older ones do and then put the first n of the values from a device word on, whatever the words of
-- the record itself are; and they name no word beside these.
pub record PutFirst (place : ℕ) (values : List ℕ) (n : ℕ) (img : List ℕ) (old new : List Pair) : Type 0 where
  pub does : (words : List ℕ) → SameOff InRecord words img → with_pairs new words ≡ with_pairs (pairs_to place values n ++ old) words
  pub names : (word : ℕ) → Named new word → IsIn place n word ⊎ Named old word
