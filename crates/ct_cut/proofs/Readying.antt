-- Both sides of a cut are ready: what was asked for, and what is there.
use Rattle.std.proofs.Common.{◌≡◌, ◌≢◌, ℕ, suc, ◌+◌, ◌-◌, ◌*◌, ◌/◌, ◌%◌, ◌^◌, ◌<◌, ◌≤◌, true, false, List, [], ◌∷◌, sym, ap, ◌∙◌, inl, inr, arith}
use Rattle.std.specs.Prelude.{All, ◌||◌}
use Rattle.std.proofs.Math.Bool.{or-false}
use Rattle.std.proofs.lemmas.Bool.{cases_Bool, cases_eq, cases_lt, false≢true, or_left}
use Rattle.ct_base.specs.Exchange.{HasTables}
use Rattle.ct_base.specs.Pieces.{pieces}
use Rattle.ct_base.specs.Plan.{table_want}
use Rattle.ct_base.specs.View.{view}
use Rattle.ct_base.specs.Walk.{byte, byte_in, page_at}
use Rattle.ct_base.specs.Wants.{Want, is_on_path, is_wanted, missing}
use Rattle.ct_image.proofs.MissingSum.{is_wanted-append}
use Rattle.ct_image.proofs.Steps.{walk-cell}
use Rattle.ct_plan.proofs.Blocks.{alike-here}
use Rattle.ct_plan.proofs.Short.{on_table, pages_on}
use Rattle.ct_plan.proofs.There.{few_both_there}
use Rattle.ct_plan.specs.Few.{AreMet, alike, edge, few_wants}
use Rattle.ct_stage.proofs.Edits.{edited-in, staged_byte}
use Rattle.ct_stage.specs.Edited.{AreBytes, edited, staged_words}
use Rattle.ct_stage.specs.Staged.{Holds, pages_from}
use Rattle.ct_write.proofs.Paths.{higher_path, missing_slot, staged_slot}
use Rattle.ct_cut.specs.Sides.{cut_asks, edge_page, side_tables, staged_wants, zeros}
use Rattle.ct_cut.proofs.Sides.{edge_none, edge_some}

-- ---- what is asked for

-- of a range that is aligned as its staging range, these are the tables on the side of that
pub few_side : (a b n d x : ℕ) → a % 2 ^ 27 ≡ b % 2 ^ 27 → 1 ≤ d → is_wanted (few_wants b a n) d x ≡ is_wanted (side_tables b n) d x
few_side a b n d x same one =
    let three : alike 3 b a ≡ 3 = alike-here 3 b a (λ z. omega (arith, z)) (omega (arith, same)) in
    let off : is_on_path d x (record { height = 4; at = b * 4096; len = n * 4096 }) ≡ false = higher_path d x (record { height = 4; at = b * 4096; len = n * 4096 }) (omega (arith, one)) in
    ap (λ (k : ℕ). is_wanted (record { height = k + 1; at = b * 4096; len = n * 4096 } ∷ table_want (edge k b) (b * 4096) ∷ table_want (edge k (b + n)) ((b + n - 1) * 4096) ∷ []) d x) three
    ∙ ap (λ t. t || is_wanted (side_tables b n) d x) off

on_pages : (d x k p b n : ℕ) → b ≤ p → p < b + n → is_on_path d x (table_want k (p * 4096)) ≡ true → is_wanted (pages_from b n) d x ≡ true
on_pages d x k p b n from to on =
    let is = on_table d x k p on in
    or_left _ _ (pages_on d x 0 b n (omega (arith, is.0)) (omega (arith, is.1.from, to)) (omega (arith, is.1.to, from)))

-- all that is staged lies in slot 2
pub asked_slot : (a b n from d x : ℕ) → 1 ≤ n → 2 * 2 ^ 27 ≤ b → b + n ≤ 3 * 2 ^ 27 → d ≤ 3 → is_wanted (staged_wants a b n from) (suc d) x ≡ true → x / 512 ^ d ≡ 2
asked_slot a b n from d x some low high le wanted = staged_slot b n d x le low high (elim (cases_Bool (is_wanted (edge_page a b from) (suc d) x)) [
  | inl on ↦ elim (cases_lt (a * 4096) from) [
    | inl lt ↦ on_pages (suc d) x 0 b b n (omega arith) (omega (arith, some)) (sym (or-false _) ∙ sym (ap (λ (l : List Want). is_wanted l (suc d) x) (edge_some a b from lt)) ∙ on)
    | inr ge ↦ absurd (false≢true (sym (ap (λ (l : List Want). is_wanted l (suc d) x) (edge_none a b from ge)) ∙ on))
  ]
  | inr off ↦
      let tables : is_wanted (side_tables b n) (suc d) x ≡ true = sym (or-false _) ∙ sym (ap (λ t. is_wanted (side_tables b n) (suc d) x || t) off) ∙ sym (is_wanted-append (side_tables b n) (edge_page a b from) (suc d) x) ∙ wanted in
      elim (cases_Bool (is_on_path (suc d) x (table_want (edge 3 b) (b * 4096)))) [
        | inl one ↦ on_pages (suc d) x (edge 3 b) b b n (omega arith) (omega (arith, some)) one
        | inr not_first ↦ on_pages (suc d) x (edge 3 (b + n)) (b + n - 1) b n (omega (arith, some)) (omega (arith, some))
            (sym (or-false _) ∙ sym (ap (λ t. t || (is_on_path (suc d) x (table_want (edge 3 (b + n)) ((b + n - 1) * 4096)) || false)) not_first) ∙ tables)
      ]
])

-- once the file's tables are made, what is missing is what is left
pub asks_left : (old new : List ℕ) (a b n from : ℕ) → 10 * 2 ^ 27 ≤ a → 1 ≤ n → 2 * 2 ^ 27 ≤ b → b + n ≤ 3 * 2 ^ 27 → ((d x : ℕ) → d ≤ 4 → is_wanted (few_wants a b n) d x ≡ false → page_at new d x ≡ page_at old d x)
    → missing new (staged_wants a b n from) + missing old (few_wants a b n) ≡ missing old (cut_asks a b n from)
asks_left old new a b n from low some second_from second_to cells =
    missing_slot old new a b n (staged_wants a b n from) low some (λ d x le wanted. asked_slot a b n from d x some second_from second_to le wanted) cells

-- ---- what is there

pub both_tables : (img : List ℕ) (a b n from : ℕ) → 1 ≤ n → a + n ≤ 2 ^ 36 → b + n ≤ 2 ^ 36 → a % 2 ^ 27 ≡ b % 2 ^ 27 → AreMet img (few_wants a b n) → AreMet img (staged_wants a b n from) → All (HasTables img a b) (pieces a b n)
both_tables img a b n from some first second same file staged =
    few_both_there img a b n some first second (λ d x low high wanted. elim (cases_Bool (is_wanted (few_wants a b n) d x)) [
      | inl on ↦ file d x low high on
      | inr off ↦
          let other : is_wanted (few_wants b a n) d x ≡ true = sym (ap (λ t. t || is_wanted (few_wants b a n) d x) off) ∙ sym (is_wanted-append (few_wants a b n) (few_wants b a n) d x) ∙ wanted in
          staged d x low high (is_wanted-append (side_tables b n) (edge_page a b from) d x ∙ or_left _ _ (sym (few_side a b n d x same low) ∙ other))
    ])

absent_byte : (img : List ℕ) (v : ℕ) → v < 2 ^ 48 → page_at img 4 (v / 4096) ≡ 0 → byte img v ≡ 0
absent_byte img v lt none = ap (λ t. byte_in img t (v % 4096)) (walk-cell img v lt ∙ none)

-- the staged bytes are those of the file up to the address, and zeros
pub zero_bytes : (mid new : List ℕ) (a b n from to : ℕ) → 2 * 2 ^ 27 ≤ b → b + n ≤ 3 * 2 ^ 27 → from ≤ (a + 1) * 4096 → (a + n) * 4096 ≤ to → (a * 4096 < from → Holds new b (staged_words mid (zeros from to) a))
    → ((q : ℕ) → q / 2 ^ 27 ≡ 2 → (a * 4096 < from → q ≢ b) → page_at new 4 q ≡ 0)
    → AreBytes (zeros from to) → (j o : ℕ) → j < n → o < 4096 → byte new ((b + j) * 4096 + o) ≡ edited (view mid) (zeros from to) ((a + j) * 4096 + o)
zero_bytes mid new a b n from to low high begins ends holds unmapped are j o lt small = elim (cases_eq j 0) [
  | inl first ↦ elim (cases_lt (a * 4096) from) [
    | inl edge ↦
        let p : b + j ≡ b = omega (arith, first) in
        let q : a + j ≡ a = omega (arith, first) in
        ap (λ k. byte new (k * 4096 + o)) p ∙ staged_byte mid new (zeros from to) b a o are (omega (arith, high, lt)) small (holds edge) ∙ sym (ap (λ k. edited (view mid) (zeros from to) (k * 4096 + o)) q)
    | inr whole ↦ zero (omega (arith, whole)) (λ edge. omega (arith, edge, whole))
  ]
  | inr later ↦ zero (omega (arith, begins, later)) (λ edge here. later (omega (arith, here)))
]
  where
    zero : from ≤ (a + j) * 4096 + o → (a * 4096 < from → b + j ≢ b) → byte new ((b + j) * 4096 + o) ≡ edited (view mid) (zeros from to) ((a + j) * 4096 + o)
    zero le away =
        let page : ((b + j) * 4096 + o) / 4096 ≡ b + j = omega (arith, small) in
        let slot : (b + j) / 2 ^ 27 ≡ 2 = omega (arith, low, high, lt) in
        absent_byte new ((b + j) * 4096 + o) (omega (arith, high, lt, small)) (ap (page_at new 4) page ∙ unmapped (b + j) slot away)
        ∙ sym (edited-in (view mid) (zeros from to) ((a + j) * 4096 + o) le (omega (arith, ends, lt, small)))
