-- What is there before the record of a write.
use Rattle.std.specs.Prelude.{◌≡◌, ◌≢◌, ℕ, ◌+◌, ◌*◌, ◌/◌, ◌<◌, ◌≤◌, ◌++◌, All, List, length}
use Rattle.ct_base.specs.declared.layout.TheConstants.{ADDRESS_END, PAGE_BYTES, PAGE_WORDS, PARTITION_SLOT, SLOT_PAGES, SLOT_SPAN, STAGING_SLOT}
use Rattle.ct_base.specs.Exchange.{HasTables}
use Rattle.ct_base.specs.Pieces.{pieces}
use Rattle.ct_base.specs.View.{view}
use Rattle.ct_base.specs.Walk.{word, byte, page_at}
use Rattle.ct_base.specs.Wants.{Want}
use Rattle.ct_plan.specs.Few.{few_wants}
use Rattle.ct_stage.specs.declared.edit.Edit.{Edit}
use Rattle.ct_stage.specs.Edited.{AreBytes, edited}
use Rattle.ct_stage.specs.Staged.{IsLaid, pages_from}

-- the wants of a write of pages a and on, staged as pages b and on: tables of the file's side, and the staged pages
abbrev pub range_wants : ℕ → ℕ → ℕ → List Want
range_wants a b n = few_wants a b n ++ pages_from b n

-- Pages b and on are staged: they have the bytes of pages a and on, once the edit is made, and both sides have the tables
-- of each piece. Off root slot 2 all is as before.
pub record Prepared (old new : List ℕ) (a b n : ℕ) (edit : Edit) : Type 0 where
  pub laid : IsLaid new
  pub seen : view new ≡ view old
  pub head : (w : ℕ) → w < PAGE_WORDS → word new w ≡ word old w
  pub pages : (p : ℕ) → p / SLOT_PAGES ≢ STAGING_SLOT → page_at new 4 p ≡ page_at old 4 p
  pub others : (v : ℕ) → v < ADDRESS_END → v / SLOT_SPAN ≢ STAGING_SLOT → byte new v ≡ byte old v
  pub roots : (k : ℕ) → STAGING_SLOT + 1 ≤ k → k < PARTITION_SLOT → page_at new 1 k ≡ page_at old 1 k
  pub tables : All (HasTables new a b) (pieces a b n)
  pub bytes : AreBytes edit → (j o : ℕ) → j < n → o < PAGE_BYTES → byte new ((b + j) * PAGE_BYTES + o) ≡ edited (view old) edit ((a + j) * PAGE_BYTES + o)
  pub size : length new ≡ length old
