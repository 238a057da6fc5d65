-- The lowest free pages, taken one after another.
use Rattle.std.proofs.Common.{◌≡◌, ◌≢◌, ℕ, zero, suc, ◌+◌, ◌/◌, ◌<◌, ◌≤◌, List, [], ◌∷◌, length, drop, refl, sym, ap, subst, ◌∙◌, ◌⊎◌, inl, inr, arith}
use Rattle.std.specs.Prelude.{Contains, Option, Some, None, IfSome, IfNone}
use Rattle.std.proofs.lemmas.Bool.{cases_eq}
use Rattle.std.proofs.lemmas.List.{length-drop, drop_all}
use Rattle.ct_frames.specs.Free.{FreePages, from_on}
use Rattle.ct_frames.proofs.Lists.{from_on-all, from_on-parts}
use Rattle.ct_walk.specs.Growth.{IsTaken}
use Rattle.ct_walk.specs.Depths.{without_lowest, IsOnTaken}

pub in_rest : (p q : ℕ) (qs : List ℕ) → Contains (p ∷ qs) q → q ≢ p → Contains qs q
in_rest p q qs (zero, lt, e) other = absurd (other (sym e))
in_rest p q qs (suc k, lt, e) other = (k, omega arith, e)

in_more : (p q : ℕ) (qs : List ℕ) → Contains qs q → Contains (p ∷ qs) q
in_more p q qs c = (suc c.0, omega (arith, c.1), c.2)

-- what is left after more were dropped was left before
pub dropped_less : (k n q : ℕ) (xs : List ℕ) → k ≤ n → Contains (drop n xs) q → Contains (drop k xs) q
dropped_less zero zero q xs le c = c
dropped_less zero (suc n) q [] le c = c
dropped_less zero (suc n) q (x ∷ xs) le c = in_more x q xs (dropped_less zero n q xs (omega arith) c)
dropped_less (suc k) zero q xs le c = absurd (omega arith)
dropped_less (suc k) (suc n) q [] le c = c
dropped_less (suc k) (suc n) q (x ∷ xs) le c = dropped_less k n q xs (omega arith) c

pub dropped_step : (k page : ℕ) (xs ys : List ℕ) → drop k xs ≡ page ∷ ys → drop (suc k) xs ≡ ys
dropped_step zero page [] ys is = cc
dropped_step zero page (x ∷ xs) ys is = cc
dropped_step (suc k) page [] ys is = cc
dropped_step (suc k) page (x ∷ xs) ys is = dropped_step k page xs ys is

-- a number is in a list or not
contains_or : (qs : List ℕ) (q : ℕ) → Contains qs q ⊎ (Contains qs q → ⊥)
contains_or [] q = inr (λ c. absurd (omega (arith, c.1)))
contains_or (x ∷ xs) q = elim (cases_eq x q) [
  | inl here ↦ inl (0, omega arith, here)
  | inr away ↦ elim (contains_or xs q) [
    | inl there ↦ inl (in_more x q xs there)
    | inr not ↦ inr (λ c. not (in_rest x q xs c (λ is. away (sym is))))
  ]
]

pub taken_or : (before after : FreePages) (q : ℕ) → IsTaken before after q ⊎ (IsTaken before after q → ⊥)
taken_or before after q = elim (contains_or before.free q) [
  | inr not ↦ inr (λ t. not t.was)
  | inl was ↦ elim (contains_or after.free q) [
    | inl still ↦ inr (λ t. t.gone still)
    | inr gone ↦ inl (record { was = was; gone = gone })
  ]
]

pub on_taken_or : (before after : FreePages) (w : ℕ) → IsOnTaken before after w ⊎ (IsOnTaken before after w → ⊥)
on_taken_or before after w = taken_or before after (w / 512)

pub taken_none : (f : FreePages) (q : ℕ) → IsTaken f (without_lowest 0 f) q → ⊥
taken_none f q t = t.gone t.was

pub taken_more : (f : FreePages) (k n q : ℕ) → k ≤ n → IsTaken f (without_lowest k f) q → IsTaken f (without_lowest n f) q
taken_more f k n q le t = record { was = t.was; gone = λ c. t.gone (dropped_less k n q f.free le c) }

-- the page by its number
pub number_next : (free : List ℕ) (from number page : ℕ) → number ≡ page → from_on from free ≡ page ∷ from_on (page + 1) free → from_on from free ≡ number ∷ from_on (number + 1) free
number_next free from number page is next = subst (λ (p : ℕ). from_on from free ≡ p ∷ from_on (p + 1) free) (sym is) next

-- So many of the pages lie below a number.
pub record Reach (f : FreePages) (k from : ℕ) : Type 0 where
  pub is : from_on from f.free ≡ drop k f.free

pub reach_start : (f : FreePages) → Reach f 0 0
reach_start f = record { is = from_on-all f.free }

-- there is one more where not all were passed
pub reach_some : {f : FreePages} {k from : ℕ} → Reach f k from → k < length f.free → from_on from f.free ≡ [] → ⊥
reach_some {f} {k} {from} r lt none = omega (arith, ap length none, ap length r.is, length-drop k f.free)

-- the next page is found
module _ {f : FreePages} {k from page : ℕ} (r : Reach f k from) (next : from_on from f.free ≡ page ∷ from_on (page + 1) f.free) where
  rest : drop (suc k) f.free ≡ from_on (page + 1) f.free
  rest = dropped_step k page f.free (from_on (page + 1) f.free) (sym r.is ∙ next)

  pub reach_next : Reach f (k + 1) (page + 1)
  reach_next = let next_is : suc k ≡ k + 1 = omega arith in record { is = sym rest ∙ ap (λ (n : ℕ). drop n f.free) next_is }

  pub page_left : Contains (drop k f.free) page
  page_left = subst (λ (xs : List ℕ). Contains xs page) (sym next ∙ r.is) (0, omega arith, refl)

  pub page_free : Contains f.free page
  page_free = dropped_less 0 k page f.free (omega arith) page_left

  pub left_parts : (q : ℕ) → Contains (drop k f.free) q → (q ≡ page) ⊎ Contains (drop (k + 1) f.free) q
  left_parts q c = elim (cases_eq q page) [
    | inl here ↦ inl here
    | inr other ↦ inr (subst (λ (xs : List ℕ). Contains xs q) (reach_next.is) (in_rest page q (from_on (page + 1) f.free) (subst (λ (xs : List ℕ). Contains xs q) (sym r.is ∙ next) c) other))
  ]

  pub left_other : (q : ℕ) → Contains (drop (k + 1) f.free) q → q ≢ page
  left_other q c here = omega (arith, here, (from_on-parts (page + 1) q f.free (subst (λ (xs : List ℕ). Contains xs q) (sym reach_next.is) c)).1)

  pub page_taken : (n : ℕ) → k < n → IsTaken f (without_lowest n f) page
  page_taken n lt = record { was = page_free; gone = λ c. left_other page (dropped_less (k + 1) n page f.free (omega arith) c) refl }

  -- what was taken with it was taken before, or is the page
  pub taken_last : (q : ℕ) → IsTaken f (without_lowest (k + 1) f) q → (q ≡ page) ⊎ IsTaken f (without_lowest k f) q
  taken_last q t = elim (cases_eq q page) [
    | inl here ↦ inl here
    | inr other ↦ inr (record { was = t.was; gone = λ c. elim (left_parts q c) [ inl here ↦ other here | inr still ↦ t.gone still ] })
  ]

-- what the frames have after one more page is taken
pub lowest_taken : (f now : FreePages) (k : ℕ) (left : FreePages) → now ≡ without_lowest k f → left.pages ≡ now.pages → ((page : ℕ) × (now.free ≡ page ∷ left.free)) ⊎ ((now.free ≡ []) × (left.free ≡ [])) → left ≡ without_lowest (k + 1) f
lowest_taken f now k left is pages either =
    let next_is : suc k ≡ k + 1 = omega arith in
    let free : left.free ≡ drop (k + 1) f.free = elim either [
      | inl (page, takes) ↦ sym (dropped_step k page f.free left.free (sym (ap (λ (v : FreePages). v.free) is) ∙ takes)) ∙ ap (λ (n : ℕ). drop n f.free) next_is
      | inr none ↦ none.1 ∙ sym (drop_all (k + 1) f.free (omega (arith, length-drop k f.free, ap length (sym (ap (λ (v : FreePages). v.free) is) ∙ none.0))))
    ] in
    ap (λ (n : ℕ). record { pages = n; free = left.free }) (pages ∙ ap (λ (v : FreePages). v.pages) is) ∙ ap (λ (xs : List ℕ). record { pages = f.pages; free = xs }) free

pub taken_either : (now left : FreePages) (r : Option ℕ) → IfSome r (λ page. now.free ≡ page ∷ left.free) → IfNone r ((now.free ≡ []) × (left.free ≡ []))
    → ((page : ℕ) × (now.free ≡ page ∷ left.free)) ⊎ ((now.free ≡ []) × (left.free ≡ []))
taken_either now left (Some page) some none = inl (page, some)
taken_either now left None some none = inr none
