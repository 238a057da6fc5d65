-- Sets of lines, and how many pages have a line in one.
use Rattle.std.proofs.Common.{◌≡◌, ◌≢◌, ◌∙◌, ◌⊎◌, inl, inr, ℕ, ◌+◌, ◌-◌, ◌*◌, ◌/◌, ◌%◌, ◌^◌, ◌<◌, ◌≤◌, List, [], ◌∷◌, ◌++◌, length, get_or, set, sym, ap, subst, refl, arith, bit_and, bit_or, All, get_or-set_other, get_or-set_same, length-set, length-append}
use Rattle.std.specs.Prelude.{min, Bool, IsTrue, ◌↔◌, ◌==◌}
use Rattle.std.specs.Int.Bits.{and_zero_l}
use Rattle.std.proofs.lemmas.Bool.{cases_eq}
use Rattle.std.proofs.lemmas.Bool.Decides.{nat_tests}
use Rattle.std.proofs.lemmas.List.Sums.{sum_by-set, sum_by-le}
use Rattle.std.proofs.lemmas.List.{get_or_append_left, get_or_push}
use Rattle.std.proofs.lemmas.Grind.{get_or_default_zero}
use Rattle.std.proofs.lemmas.Nat.{and_or_self, and_mask, and_le_r, pow_pos}
use Rattle.pm_file.specs.Lines.{with_line, page_total, IsCleared, IsKept}

-- a mask with a bit more is not 0
pub or_some : (x k : ℕ) → bit_or x (2 ^ k) ≢ 0
or_some x k none =
    let e : bit_and 0 (2 ^ k) ≡ 2 ^ k = ap (λ n. bit_and n (2 ^ k)) (sym none) ∙ and_or_self (2 ^ k) x in
    omega (arith, e, and_zero_l (2 ^ k), pow_pos k)

-- what holds of each element and of one more at the end
all_last : (P : ℕ → Type 0) (xs : List ℕ) (x : ℕ) → All P (xs ++ x ∷ []) → All P xs × P x
all_last P xs x all = (
  λ k d h. subst P (get_or_append_left xs (x ∷ []) d k h) (all k d (omega (arith, length-append xs (x ∷ []), h))),
  subst P (get_or_push xs x x (length xs) refl) (all (length xs) x (omega (arith, length-append xs (x ∷ [])))),
)

module _ (masks : List ℕ) (page v : ℕ) (there : page < length masks) where
  changed : page_total (set masks page v) + min (get_or masks page 0) 1 ≡ page_total masks + min v 1
  changed = sum_by-set (λ mask. min mask 1) masks page v 0 there

  total_more : get_or masks page 0 ≡ 0 → v ≢ 0 → page_total (set masks page v) ≡ page_total masks + 1
  total_more none some = omega (arith, changed, none)

  total_same : get_or masks page 0 ≢ 0 → v ≢ 0 → page_total (set masks page v) ≡ page_total masks
  total_same some same = omega (arith, changed)

pub length-with_line : (masks : List ℕ) (line : ℕ) → length (with_line masks line) ≡ length masks
length-with_line masks line = length-set masks (line / 64) (bit_or (get_or masks (line / 64) 0) (2 ^ (line % 64)))

-- where a page has no line in the set, not all pages have one
pub room_left : (masks : List ℕ) (page : ℕ) → page < length masks → get_or masks page 0 ≡ 0 → page_total masks < length masks
room_left masks page there none =
    let most : page_total (set masks page 1) ≤ length (set masks page 1) * 1 = sum_by-le (λ mask. min mask 1) 1 (set masks page 1) (λ k d h. omega arith) in
    omega (arith, most, total_more masks page 1 there none (λ e. omega (arith, e)), length-set {A = ℕ})

-- where no page has a line in the set, their number is 0
pub none_total : (masks : List ℕ) → ((page : ℕ) → get_or masks page 0 ≡ 0) → page_total masks ≡ 0
none_total masks none =
    let most : page_total masks ≤ length masks * 0 = sum_by-le (λ mask. min mask 1) 0 masks (λ k d h. omega (arith, none k, get_or_default_zero masks k d h)) in
    omega (arith, most)

-- whether the list of the pages with a line is empty tells whether the set is
pub tells_none : (pages masks : List ℕ) (b : Bool) → b ≡ (length pages == 0) → length pages ≡ page_total masks
    → ((page : ℕ) → All (λ p. p ≢ page) pages → get_or masks page 0 ≡ 0) → IsTrue b ↔ ((page : ℕ) → get_or masks page 0 ≡ 0)
tells_none pages masks b is counted listed = (λ t page. listed page (λ k d h. absurd (omega (arith, h, empty t))), full)
  where
    empty : IsTrue b → length pages ≡ 0
    empty t = grind (arith, nat_tests)

    full : ((page : ℕ) → get_or masks page 0 ≡ 0) → IsTrue b
    full none = let z : length pages ≡ 0 = omega (arith, counted, none_total masks none) in grind (arith, nat_tests)

-- a line is put into a set whose pages with a line are listed
module _ (masks pages : List ℕ) (line : ℕ) (there : line / 64 < length masks)
    (listed : (page : ℕ) → All (λ p. p ≢ page) pages → get_or masks page 0 ≡ 0) where
  pub line_same : get_or masks (line / 64) 0 ≢ 0 → page_total (with_line masks line) ≡ page_total masks
  line_same some = total_same masks (line / 64) _ there some (or_some (get_or masks (line / 64) 0) (line % 64))

  pub line_more : get_or masks (line / 64) 0 ≡ 0 → page_total (with_line masks line) ≡ page_total masks + 1
  line_more none = total_more masks (line / 64) _ there none (or_some (get_or masks (line / 64) 0) (line % 64))

  pub listed_same : get_or masks (line / 64) 0 ≢ 0 → (page : ℕ) → All (λ p. p ≢ page) pages → get_or (with_line masks line) page 0 ≡ 0
  listed_same some page all =
      elim (cases_eq page (line / 64)) [
        | inl here ↦ absurd (some (ap (λ k. get_or masks k 0) (sym here) ∙ listed page all))
        | inr away ↦ get_or-set_other masks (line / 64) page _ 0 away ∙ listed page all
      ]

  pub listed_more : (page : ℕ) → All (λ p. p ≢ page) (pages ++ line / 64 ∷ []) → get_or (with_line masks line) page 0 ≡ 0
  listed_more page all =
      let parts = all_last (λ p. p ≢ page) pages (line / 64) all in
      get_or-set_other masks (line / 64) page _ 0 (λ e. parts.1 (sym e)) ∙ listed page parts.0

-- no bit is taken from a mask
pub none_taken : (mask : ℕ) → mask < 2 ^ 64 → bit_and mask (2 ^ 64 - 1) ≡ mask
none_taken mask fits = and_mask mask 64 ∙ omega (arith, fits)

-- the marks of one page more are cleared
module _ (stored marked now_stored now_marked : List ℕ) (page : ℕ)
    (stored_there : page < length now_stored) (marked_there : page < length now_marked)
    (each : (p : ℕ) → IsCleared stored marked now_stored now_marked p ⊎ IsKept stored marked now_stored now_marked p) where
  pub cleared_more : (p : ℕ) → IsCleared stored marked (set now_stored page (bit_and (get_or now_stored page 0) (2 ^ 64 - 1 - get_or now_marked page 0))) (set now_marked page 0) p ⊎ IsKept stored marked (set now_stored page (bit_and (get_or now_stored page 0) (2 ^ 64 - 1 - get_or now_marked page 0))) (set now_marked page 0) p
  cleared_more p =
      elim (cases_eq p page) [
        | inl here ↦ inl (at_page (each p) here)
        | inr away ↦ off_page (each p) away
      ]
    where
      at_page : IsCleared stored marked now_stored now_marked p ⊎ IsKept stored marked now_stored now_marked p → p ≡ page → IsCleared stored marked (set now_stored page (bit_and (get_or now_stored page 0) (2 ^ 64 - 1 - get_or now_marked page 0))) (set now_marked page 0) p
      at_page (inl done) here = record {
        marked_is = ap (λ k. get_or (set now_marked page 0) k 0) here ∙ get_or-set_same now_marked page 0 0 marked_there;
        stored_is = ap (λ k. get_or (set now_stored page (bit_and (get_or now_stored page 0) (2 ^ 64 - 1 - get_or now_marked page 0))) k 0) here ∙ get_or-set_same now_stored page _ 0 stored_there
            ∙ ap (λ k. bit_and (get_or now_stored k 0) (2 ^ 64 - 1 - get_or now_marked k 0)) (sym here)
            ∙ ap (λ m. bit_and (get_or now_stored p 0) (2 ^ 64 - 1 - m)) done.marked_is
            ∙ none_taken (get_or now_stored p 0) (omega (arith, done.stored_is, and_le_r (get_or stored p 0) (2 ^ 64 - 1 - get_or marked p 0)))
            ∙ done.stored_is;
      }
      at_page (inr kept) here = record {
        marked_is = ap (λ k. get_or (set now_marked page 0) k 0) here ∙ get_or-set_same now_marked page 0 0 marked_there;
        stored_is = ap (λ k. get_or (set now_stored page (bit_and (get_or now_stored page 0) (2 ^ 64 - 1 - get_or now_marked page 0))) k 0) here ∙ get_or-set_same now_stored page _ 0 stored_there
            ∙ ap (λ k. bit_and (get_or now_stored k 0) (2 ^ 64 - 1 - get_or now_marked k 0)) (sym here)
            ∙ ap (λ s. bit_and s (2 ^ 64 - 1 - get_or now_marked p 0)) kept.stored_is ∙ ap (λ m. bit_and (get_or stored p 0) (2 ^ 64 - 1 - m)) kept.marked_is;
      }

      off_page : IsCleared stored marked now_stored now_marked p ⊎ IsKept stored marked now_stored now_marked p → p ≢ page → IsCleared stored marked (set now_stored page (bit_and (get_or now_stored page 0) (2 ^ 64 - 1 - get_or now_marked page 0))) (set now_marked page 0) p ⊎ IsKept stored marked (set now_stored page (bit_and (get_or now_stored page 0) (2 ^ 64 - 1 - get_or now_marked page 0))) (set now_marked page 0) p
      off_page (inl done) away = inl (record {
        marked_is = get_or-set_other now_marked page p 0 0 away ∙ done.marked_is;
        stored_is = get_or-set_other now_stored page p _ 0 away ∙ done.stored_is;
      })
      off_page (inr kept) away = inr (record {
        marked_is = get_or-set_other now_marked page p 0 0 away ∙ kept.marked_is;
        stored_is = get_or-set_other now_stored page p _ 0 away ∙ kept.stored_is;
      })

pub zero_more : (pages masks : List ℕ) (i : ℕ) → get_or pages i 0 < length masks → ((k : ℕ) → k < i → get_or masks (get_or pages k 0) 0 ≡ 0)
    → (k : ℕ) → k < i + 1 → get_or (set masks (get_or pages i 0) 0) (get_or pages k 0) 0 ≡ 0
zero_more pages masks i there zero k below =
    elim (cases_eq (get_or pages k 0) (get_or pages i 0)) [
      | inl here ↦ ap (λ p. get_or (set masks (get_or pages i 0) 0) p 0) here ∙ get_or-set_same masks (get_or pages i 0) 0 0 there
      | inr away ↦
          let other : k ≢ i = λ e. away (ap (λ j. get_or pages j 0) e) in
          get_or-set_other masks (get_or pages i 0) (get_or pages k 0) 0 0 away ∙ zero k (omega arith)
    ]

-- the marks of all listed pages were cleared, and only listed pages had marks
module _ (pages stored marked new_stored new_marked : List ℕ)
    (listed : (page : ℕ) → All (λ p. p ≢ page) pages → get_or marked page 0 ≡ 0)
    (cleared : All (λ p. get_or new_marked p 0 ≡ 0) pages)
    (each : (page : ℕ) → IsCleared stored marked new_stored new_marked page ⊎ IsKept stored marked new_stored new_marked page) where
  pub all_cleared : (page : ℕ) → get_or new_marked page 0 ≡ 0
  all_cleared page =
      elim (cases_eq (get_or new_marked page 0) 0) [
        | inl zero ↦ zero
        | inr some ↦ elim (each page) [
          | inl done ↦ done.marked_is
          | inr kept ↦ kept.marked_is ∙ listed page (λ k d h e. some (ap (λ p. get_or new_marked p 0) (sym e) ∙ cleared k d h))
        ]
      ]

  pub all_written : ((page : ℕ) → get_or stored page 0 < 2 ^ 64) → (page : ℕ) → get_or new_stored page 0 ≡ bit_and (get_or stored page 0) (2 ^ 64 - 1 - get_or marked page 0)
  all_written fit page =
      elim (each page) [
        | inl done ↦ done.stored_is
        | inr kept ↦ kept.stored_is ∙ sym (none_taken (get_or stored page 0) (fit page)) ∙ ap (λ m. bit_and (get_or stored page 0) (2 ^ 64 - 1 - m)) (sym (sym kept.marked_is ∙ all_cleared page))
      ]
