-- Words that are at rest again: the record alone differs, the tables stay, or a staging slot is emptied.
use Rattle.std.proofs.Common.{◌≡◌, ◌≢◌, ℕ, ◌+◌, ◌*◌, ◌/◌, ◌%◌, ◌<◌, ◌≤◌, List, length, sym, ap, ◌∙◌, subst, inl, inr, arith}
use Rattle.std.proofs.lemmas.Bool.{cases_eq}
use Rattle.ct_base.specs.Rules.{IsMappedInParts, mapped}
use Rattle.ct_base.specs.Settled.{IsShut}
use Rattle.ct_base.specs.View.{inode_count, view}
use Rattle.ct_base.specs.Walk.{word, next, named_page, page_at, page_count, AreTables}
use Rattle.ct_frames.specs.Agrees.{Agrees}
use Rattle.ct_frames.specs.Free.{FreePages}
use Rattle.ct_image.proofs.Beside.{Beside, beside_cells, beside_tables}
use Rattle.ct_image.proofs.Steps.{named_page-zero, next-at, page_at-root}
use Rattle.ct_pm.specs.Device.{SameOff}
use Rattle.ct_record.specs.Record.{InRecord}
use Rattle.ct_record.proofs.Under.{under_beside}
use Rattle.ct_state.proofs.Carry.{sound-same}
use Rattle.ct_state.proofs.Settle.{alike_off}
use Rattle.ct_state.specs.Alike.{Alike, IsWhole}
use Rattle.ct_commit.specs.Rest.{IsAtRest, IsUnstaged, IsUnstagedBut, KeepsTables}
use Rattle.ct_commit.proofs.Emptying.{Empties, empty_alike, empty_length, empty_shut, empty_slot, empty_whole, empty_word}
use Rattle.ct_commit.proofs.States.{head_over, off_record}

-- words that look alike are at rest where the gates are closed and the tables well formed
pub rest_alike : {old new : List ℕ} → IsAtRest old → Alike old new → IsWhole new → ((w : ℕ) → w < 512 → word new w ≡ word old w) → length new ≡ length old → IsShut new → IsAtRest new
rest_alike rest alike whole head size shut = record {
  head = head_over rest.head head size shut;
  sound = sound-same alike whole rest.sound;
  shut = shut;
  tables = whole.tables;
}

-- where the tables stay, so do the free pages
pub cells_agree : {old new : List ℕ} {frames : FreePages} → ((d x : ℕ) → d ≤ 4 → page_at new d x ≡ page_at old d x) → page_count new ≡ page_count old → Agrees old frames → Agrees new frames
cells_agree cells count a = record {
  pages = a.pages ∙ sym count;
  free = λ q free d x le is. a.free q free d x le (sym (cells d x le) ∙ is);
  all = λ q low high. elim (a.all q low (omega (arith, high, count))) [
    | inl free ↦ inl free
    | inr reached ↦ inr (record { depth = reached.depth; number = reached.number; few = reached.few; is = cells reached.depth reached.number reached.few ∙ reached.is })
  ];
}

pub tables_agree : {old new : List ℕ} {frames : FreePages} → KeepsTables old new → Agrees old frames → Agrees new frames
tables_agree k a = cells_agree k.cells (k.head 2 (omega arith)) a

-- ---- the record alone differs, and is closed

module _ {old new : List ℕ} (rest : IsAtRest old) (same : SameOff InRecord new old) (shut : IsShut new) where
  beside : Beside old new
  beside = under_beside old new same

  alike : Alike old new
  alike = alike_off (off_record same)

  whole : IsWhole new
  whole = record {
    tables = beside_tables beside rest.tables;
    mapped = subst (λ b. IsMappedInParts new b (inode_count new)) (sym alike.bytes) (subst (λ c. IsMappedInParts new (view old) c) (sym alike.inodes)
        (λ p low out. beside_cells beside 4 p ∙ rest.sound mapped p low out));
  }

  pub rest_beside : IsAtRest new
  rest_beside = rest_alike rest alike whole beside.front same.size shut

  pub unstaged_beside : IsUnstaged old → IsUnstaged new
  unstaged_beside none k lt = same.others (16898 + k) (λ inside. omega (arith, inside.1)) ∙ none k lt

  pub agrees_beside : {frames : FreePages} → Agrees old frames → Agrees new frames
  agrees_beside a = cells_agree (λ d x le. beside_cells beside d x) (beside.front 2 (omega arith)) a

-- ---- staging

-- the table of a root slot
slot_step : (img : List ℕ) (k : ℕ) → k < 512 → page_at img 1 k ≡ next img (page_at img 0 0) k
unfolding page_at
slot_step img k lt =
    let top : k / 512 ≡ 0 = omega (arith, lt) in
    let index : k % 512 ≡ k = omega (arith, lt) in
    ap (λ y. next img (page_at img 0 y) (k % 512)) top ∙ ap (next img (page_at img 0 0)) index

pub no_table : (img : List ℕ) (k : ℕ) → k < 512 → word img (16896 + k) ≡ 0 → page_at img 1 k ≡ 0
no_table img k lt none =
    slot_step img k lt ∙ ap (λ t. next img t k) (page_at-root img) ∙ next-at img 33 k (omega arith)
    ∙ ap (named_page (page_count img)) none ∙ named_page-zero (page_count img)

pub no_entry : (img : List ℕ) (k : ℕ) → k < 512 → AreTables img → page_at img 1 k ≡ 0 → word img (16896 + k) ≡ 0
no_entry img k lt tables none =
    let root : page_at img 0 0 ≡ 33 = page_at-root img in
    ap (λ t. word img (t * 512 + k)) (sym root) ∙ tables.entries 0 0 k (omega arith) lt (λ z. omega (arith, root, z)) (sym (slot_step img k lt) ∙ none)

-- a staging slot that was empty is empty where its table is the same
slot_stays : (old new : List ℕ) (k : ℕ) → k < 8 → AreTables new → page_at new 1 (2 + k) ≡ page_at old 1 (2 + k) → word old (16898 + k) ≡ 0 → word new (16898 + k) ≡ 0
slot_stays old new k lt tables same none =
    ap (word new) (omega arith) ∙ no_entry new (2 + k) (omega (arith, lt)) tables (same ∙ no_table old (2 + k) (omega (arith, lt)) (ap (word old) (omega arith) ∙ none))

pub slots_stay : (old new : List ℕ) → AreTables new → ((k : ℕ) → k < 8 → page_at new 1 (2 + k) ≡ page_at old 1 (2 + k)) → IsUnstaged old → IsUnstaged new
slots_stay old new tables same none k lt = slot_stays old new k lt tables (same k lt) (none k lt)

pub tables_unstaged : {old new : List ℕ} → AreTables new → KeepsTables old new → IsUnstaged old → IsUnstaged new
tables_unstaged {old} {new} tables k none = slots_stay old new tables (λ j lt. k.cells 1 (2 + j) (omega arith)) none

-- but for one
pub slots_stay_but : (old new : List ℕ) (slot : ℕ) → AreTables new → ((k : ℕ) → k < 8 → 2 + k ≢ slot → page_at new 1 (2 + k) ≡ page_at old 1 (2 + k)) → IsUnstaged old → IsUnstagedBut slot new
slots_stay_but old new slot tables same none k lt other = slot_stays old new k lt tables (same k lt other) (none k lt)

-- and that one is empty too
pub unstaged_all : (w : List ℕ) (slot : ℕ) → word w (16896 + slot) ≡ 0 → IsUnstagedBut slot w → IsUnstaged w
unstaged_all w slot empty none k lt = elim (cases_eq (2 + k) slot) [ inl here ↦ ap (word w) (omega (arith, here)) ∙ empty | inr other ↦ none k lt other ]

-- ---- a slot is emptied

module _ {old new : List ℕ} {slot : ℕ} (x : Empties old new slot) where
  pub empty_rest : IsAtRest old → IsAtRest new
  empty_rest rest = rest_alike rest (empty_alike x) (empty_whole x) (λ w lt. empty_word x w (λ e. omega (arith, e, lt))) (empty_length x) (empty_shut x)

  pub empty_unstaged : IsUnstagedBut slot old → IsUnstaged new
  empty_unstaged none = unstaged_all new slot (empty_slot x) (λ k lt other. empty_word x (16898 + k) (λ e. other (omega (arith, e))) ∙ none k lt other)
