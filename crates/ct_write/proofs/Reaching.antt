-- A page has a cell or it has none, so that what is free is told by what is fresh.
use Rattle.std.proofs.Common.{◌≡◌, ◌≢◌, ℕ, zero, suc, ◌/◌, ◌%◌, ◌^◌, ◌<◌, ◌≤◌, ◌⊎◌, List, refl, sym, ap, subst, ◌∙◌, inl, inr, arith}
use Rattle.std.proofs.Math.Nat.{pow-suc}
use Rattle.std.proofs.lemmas.Bool.{cases_eq, cases_lt}
use Rattle.ct_base.specs.Walk.{page_at, page_count, next, IsFresh, IsReached}
use Rattle.ct_frames.specs.Agrees.{Agrees}
use Rattle.ct_frames.specs.Free.{FreePages}
use Rattle.ct_image.proofs.Steps.{page_at-next, next-zero}
use Rattle.ct_write.specs.Recorded.{Recorded}

search_below : (P : ℕ → Type 0) → ((x : ℕ) → P x ⊎ (P x → ⊥)) → (n : ℕ) → ((x : ℕ) × P x) ⊎ ((x : ℕ) → x < n → P x → ⊥)
search_below P dec zero = inr (λ x lt. absurd (omega arith))
search_below P dec (suc n) = last (dec n) (search_below P dec n)
  where
    last : P n ⊎ (P n → ⊥) → ((x : ℕ) × P x) ⊎ ((x : ℕ) → x < n → P x → ⊥) → ((x : ℕ) × P x) ⊎ ((x : ℕ) → x < suc n → P x → ⊥)
    last (inl has) rest = inl (n, has)
    last (inr without) (inl some) = inl some
    last (inr without) (inr none) = inr (λ x lt is. elim (cases_eq x n) [ inl here ↦ without (subst P here is) | inr other ↦ none x (omega (arith, other)) is ])

past_root : (img : List ℕ) (x : ℕ) → 1 ≤ x → page_at img 0 x ≡ 0
unfolding page_at
past_root img zero past = absurd (omega arith)
past_root img (suc x) past = refl

past_cells : (img : List ℕ) (d x : ℕ) → 512 ^ d ≤ x → page_at img d x ≡ 0
past_cells img zero x past = past_root img x (omega arith)
past_cells img (suc d) x past = page_at-next img d x ∙ ap (λ t. next img t (x % 512)) (past_cells img d (x / 512) (omega (arith, pow-suc 512 d))) ∙ next-zero img (x % 512)

-- some cell of a depth has the page, or none
at_depth : (img : List ℕ) (q d : ℕ) → q ≢ 0 → ((x : ℕ) × (page_at img d x ≡ q)) ⊎ ((x : ℕ) → page_at img d x ≢ q)
at_depth img q d some = elim (search_below (λ x. page_at img d x ≡ q) (λ x. cases_eq (page_at img d x) q) (512 ^ d)) [
  | inl found ↦ inl found
  | inr none ↦ inr (λ x is. elim (cases_lt x (512 ^ d)) [ inl lt ↦ none x lt is | inr past ↦ some (sym is ∙ past_cells img d x past) ])
]

pub reached_or_fresh : (img : List ℕ) (q : ℕ) → q ≢ 0 → IsReached img q ⊎ IsFresh img q
reached_or_fresh img q some =
    elim (search_below (λ d. (d ≤ 4) × (x : ℕ) × (page_at img d x ≡ q)) each 5) [
      | inl found ↦ inl (record { depth = found.0; number = found.1.1; few = found.1.0; is = found.1.2 })
      | inr none ↦ inr (λ d x le is. none d (omega arith) (le, x, is))
    ]
  where
    each : (d : ℕ) → ((d ≤ 4) × (x : ℕ) × (page_at img d x ≡ q)) ⊎ ((d ≤ 4) × (x : ℕ) × (page_at img d x ≡ q) → ⊥)
    each d = elim (cases_lt d 5) [
      | inr past ↦ inr (λ is. absurd (omega (arith, is.0, past)))
      | inl low ↦ elim (at_depth img q d some) [ inl found ↦ inl (omega arith, found.0, found.1) | inr none ↦ inr (λ is. none is.1 is.2) ]
    ]

-- images with the same fresh pages have the same free ones
pub fresh_agree : {old new : List ℕ} {frames : FreePages} → page_count new ≡ page_count old → ((q : ℕ) → IsFresh old q → IsFresh new q) → ((q : ℕ) → IsFresh new q → IsFresh old q) → Agrees old frames → Agrees new frames
fresh_agree {old} {new} count on back f = record {
  pages = f.pages ∙ sym count;
  free = λ q in_. on q (f.free q in_);
  all = λ q low high. elim (f.all q low (omega (arith, count, high))) [
    | inl free ↦ inl free
    | inr at ↦ elim (reached_or_fresh new q (omega (arith, low))) [ inl reached ↦ inr reached | inr fresh ↦ absurd (back q fresh at.depth at.number at.few at.is) ]
  ];
}

pub recorded_agrees : {old new : List ℕ} {i a b n len : ℕ} {frames : FreePages} → Recorded old new i a b n len → Agrees old frames → Agrees new frames
recorded_agrees r = fresh_agree (r.sized.head 2 (omega arith) ∙ r.exchanged.count)
    (λ q f d x le is. r.exchanged.fresh q f d x le (sym (r.sized.cells d x le) ∙ is))
    (λ q f. r.exchanged.reached q (λ d x le is. f d x le (r.sized.cells d x le ∙ is)))
