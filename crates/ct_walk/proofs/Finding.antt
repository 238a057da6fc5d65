-- What the way to a cell finds, one index step further.
use Rattle.std.proofs.Common.{◌≡◌, ◌≢◌, ℕ, suc, ◌+◌, ◌-◌, ◌*◌, ◌/◌, ◌%◌, ◌^◌, ◌<◌, ◌≤◌, true, List, Some, None, sym, ap, ◌∙◌, inl, inr, arith}
use Rattle.std.specs.Prelude.{◌==◌}
use Rattle.std.proofs.lemmas.Bool.{cases_eq, cases_lt, eq-eqb, ne_eqb, both_ways}
use Rattle.std.proofs.Math.Nat.{pow-suc}
use Rattle.ct_base.specs.Walk.{page_at, next}
use Rattle.ct_image.proofs.Steps.{page_at-next, page_at-root, next-zero}
use Rattle.ct_walk.specs.declared.absent.Look.TheVariants.{Present, Absent}
use Rattle.ct_walk.specs.Looks.{Finds}
use Rattle.ct_walk.specs.Pages.{some_page}
use Rattle.ct_base.specs.Wants.{Want, is_wanted}
use Rattle.ct_walk.specs.declared.wants.Run.{Run}
use Rattle.ct_walk.specs.Runs.{IsNearest, NoneMissing, absent_below}
use Rattle.ct_walk.proofs.Entries.{some_page-is, some_page-none}
use Rattle.ct_walk.proofs.Cells.{count_below-skip, count_below-all}

step : (img : List ℕ) (d e x : ℕ) → d ≡ suc e → page_at img d x ≡ next img (page_at img e (x / 512)) (x % 512)
step img d e x is = ap (λ k. page_at img k x) is ∙ page_at-next img e x

width : (d e : ℕ) → d ≡ suc e → 512 ^ e * 512 ≡ 512 ^ d
width d e is = sym (pow-suc 512 e) ∙ ap (λ k. 512 ^ k) (sym is)

pub finds_root : (img : List ℕ) (d x : ℕ) → d ≡ 0 → x < 512 ^ d → Finds img d x (Present 33)
finds_root img d x is low =
    let one : 512 ^ d ≡ 1 = ap (λ k. 512 ^ k) is in
    let first : x ≡ 0 = omega (arith, one) in
    (sym (ap (λ k. page_at img k x) is ∙ ap (page_at img 0) first ∙ page_at-root img), omega arith, omega arith)

pub low_up : (d e x : ℕ) → d ≡ suc e → x < 512 ^ d → x / 512 < 512 ^ e
low_up d e x is low = omega (arith, width d e is)

pub finds_absent : (img : List ℕ) (d e x cells : ℕ) → d ≡ suc e → Finds img e (x / 512) (Absent cells) → Finds img d x (Absent (cells * 512 - x % 512))
finds_absent img d e x cells is (some, within, none) = (
  omega arith,
  omega (arith, width d e is),
  λ y from to. step img d e y is ∙ ap (λ t. next img t (y % 512)) (none (y / 512) (omega arith) (omega arith)) ∙ next-zero img (y % 512),
)

pub finds_some : (img : List ℕ) (d e x table page : ℕ) → d ≡ suc e → Finds img e (x / 512) (Present table) → Some page ≡ some_page (next img table (x % 512)) → page < 4503599627370496 → Finds img d x (Present page)
finds_some img d e x table page is (at, there, fits) exact small =
    let found = some_page-is page _ exact in
    let here : page_at img d x ≡ next img table (x % 512) = step img d e x is ∙ ap (λ t. next img t (x % 512)) (sym at) in
    (sym (here ∙ found.0), λ none. found.1 (found.0 ∙ none), small)

pub finds_none : (img : List ℕ) (d e x table : ℕ) → d ≡ suc e → x < 512 ^ d → Finds img e (x / 512) (Present table) → None ≡ some_page (next img table (x % 512)) → Finds img d x (Absent 1)
finds_none img d e x table is low (at, there, fits) exact =
    let none : next img table (x % 512) ≡ 0 = some_page-none (next img table (x % 512)) exact in
    let here : page_at img d x ≡ next img table (x % 512) = step img d e x is ∙ ap (λ t. next img t (x % 512)) (sym at) in
    (omega arith, omega (arith, low), λ y from to. let same : y ≡ x = omega arith in ap (page_at img d) same ∙ here ∙ none)

-- one cell further, or past those that are absent together
pub absent_more : (img : List ℕ) (d total from x absent more : ℕ) → total + absent_below img d from ≡ absent_below img d x → (absent ≡ 0 → page_at img d x ≢ 0) → ((y : ℕ) → x ≤ y → y < x + absent → page_at img d y ≡ 0)
    → (absent ≡ 0 → more ≡ 1) → (0 < absent → more ≡ absent) → total + absent + absent_below img d from ≡ absent_below img d (x + more)
absent_more img d total from x absent more counted present none one many =
    elim (cases_eq absent 0) [
      | inl nought ↦
          let skip = count_below-skip (λ y. page_at img d y == 0) x (x + 1) (omega arith) (λ y f t. let same : y ≡ x = omega arith in ne_eqb _ 0 (λ gone. present nought (ap (page_at img d) (sym same) ∙ gone))) in
          let at : x + more ≡ x + 1 = omega (arith, one nought) in
          omega (arith, counted, nought, skip, ap (absent_below img d) at)
      | inr some ↦
          let all = count_below-all (λ y. page_at img d y == 0) x (x + absent) (omega arith) (λ y f t. eq-eqb _ 0 (none y f t)) in
          let at : x + more ≡ x + absent = omega (arith, many (omega (arith, some))) in
          omega (arith, counted, all, ap (absent_below img d) at)
    ]

-- No cell from one on and before the run is missing, and the run is the next one of wanted cells.
pub record Seeking (img : List ℕ) (wants : List Want) (d from : ℕ) (run : Run) : Type 0 where
  pub low : from ≤ run.first
  pub order : run.first ≤ run.past
  pub high : run.past ≤ 512 ^ d
  pub ends : run.first ≡ run.past → run.first ≡ 512 ^ d
  pub inside : (x : ℕ) → run.first ≤ x → x < run.past → is_wanted wants d x ≡ true
  pub none : NoneMissing img wants d from run.first

pub seeking_start : (img : List ℕ) (wants : List Want) (d from : ℕ) (run : Run) → IsNearest wants d from run → Seeking img wants d from run
seeking_start img wants d from run near = record {
  low = near.low;
  order = near.order;
  high = near.high;
  ends = near.ends;
  inside = near.inside;
  none = λ x f t missing. both_ways _ (near.before x f t) missing.wanted;
}

pub seeking_step : {img : List ℕ} {wants : List Want} {d from : ℕ} {run next : Run} → Seeking img wants d from run → page_at img d run.first ≢ 0 → IsNearest wants d (run.first + 1) next → Seeking img wants d from next
seeking_step {img} {wants} {d} {from} {run} {next} seek there near = record {
  low = let low = near.low in let was = seek.low in omega arith;
  order = near.order;
  high = near.high;
  ends = near.ends;
  inside = near.inside;
  none = λ x f t missing. elim (cases_lt x run.first) [
    | inl before ↦ seek.none x f before missing
    | inr from_first ↦ elim (cases_eq x run.first) [
      | inl here ↦ there (ap (page_at img d) (sym here) ∙ missing.absent)
      | inr after ↦ both_ways _ (near.before x (omega (arith, after)) t) missing.wanted
    ]
  ];
}
