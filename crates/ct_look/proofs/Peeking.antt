-- Index steps over tables that need not be well formed.
use Rattle.std.proofs.Common.{◌≡◌, ◌≢◌, ℕ, ◌+◌, ◌*◌, ◌/◌, ◌%◌, ◌^◌, ◌<◌, ◌≤◌, List, Option, Some, None, sym, ap, ◌∙◌, subst, inl, inr, arith}
use Rattle.std.specs.Prelude.{IfSome}
use Rattle.std.proofs.lemmas.Bool.{cases_eq}
use Rattle.ct_base.specs.Walk.{word, page_count, named_page, next, index, walk}
use Rattle.ct_image.proofs.Steps.{named_page-made, named_page-bounds, next-at, next-bounds, next-zero}
use Rattle.ct_walk.proofs.Entries.{some_page-is, some_page-none}
use Rattle.ct_walk.specs.Pages.{some_page}
use Rattle.ct_look.specs.Looks.{IsOnDevice}

-- an entry of the right form names its page
pub named_some : (pages entry : ℕ) → entry % 4096 ≡ 1 → 34 ≤ entry / 4096 → entry / 4096 < pages → named_page pages entry ≡ entry / 4096
named_some pages entry form low high =
    ap (named_page pages) (omega (arith, form)) ∙ named_page-made pages (entry / 4096) low high

-- and any other names none
pub named_none : (pages entry : ℕ) → (entry % 4096 ≡ 1 → 34 ≤ entry / 4096 → entry / 4096 < pages → ⊥) → named_page pages entry ≡ 0
named_none pages entry off = elim (cases_eq (named_page pages entry) 0) [
  | inl none ↦ none
  | inr some ↦
      let b = named_page-bounds pages entry some in
      let is : entry / 4096 ≡ named_page pages entry = omega (arith, b.2) in
      absurd (off (omega (arith, b.2)) (omega (arith, is, b.0)) (omega (arith, is, b.1)))
]

pub step_is : (img : List ℕ) (table i pages entry : ℕ) → 33 ≤ table → pages ≡ page_count img → entry ≡ word img (table * 512 + i) → named_page pages entry ≡ next img table i
step_is img table i pages entry low count is =
    ap (λ p. named_page p entry) count ∙ ap (named_page (page_count img)) is ∙ sym (next-at img table i (λ none. omega (arith, none, low)))

-- a page that an index step reaches is on the device
pub step_there : (img : List ℕ) (table i : ℕ) (found : Option ℕ) → found ≡ some_page (next img table i) → IfSome found (λ page. page < 2 ^ 52) → IfSome found (IsOnDevice img)
step_there img table i None is small = tt
step_there img table i (Some page) is small =
    let named = some_page-is page (next img table i) is in
    let b = next-bounds img table i named.1 in
    record { low = omega (arith, named.0, b.0); high = subst (λ p. p < page_count img) named.0 b.1; small = small }

-- so is one that an entry of a word names
pub known_there : (img : List ℕ) → ((w : ℕ) → word img w < 2 ^ 64) → (table i : ℕ) → next img table i ≢ 0 → IsOnDevice img (next img table i)
known_there img fits table i some =
    let b = next-bounds img table i some in
    let entry = next-at img table i (λ none. some (ap (λ t. next img t i) none ∙ next-zero img i)) in
    let n = named_page-bounds (page_count img) (word img (table * 512 + i)) (λ none. some (entry ∙ none)) in
    record { low = omega (arith, b.0); high = b.1; small = omega (arith, entry, n.2, fits (table * 512 + i)) }

-- and the page of a walk
pub walk_there : (img : List ℕ) → ((w : ℕ) → word img w < 2 ^ 64) → (v page : ℕ) → page ≢ 0 → walk img v ≡ page → IsOnDevice img page
walk_there img fits v page some is =
    subst (IsOnDevice img) is (known_there img fits (next img (next img (next img 33 (index 4 v)) (index 3 v)) (index 2 v)) (index 1 v) (λ none. some (sym is ∙ none)))

-- a walk that ends early
module _ (img : List ℕ) (v address : ℕ) (is : address ≡ v) where
  pub no_third : None ≡ some_page (next img 33 (address / 549755813888 % 512)) → walk img v ≡ 0
  no_third off =
      let none = some_page-none (next img 33 (address / 549755813888 % 512)) off in
      cc (none, is, next-zero img (index 3 v), next-zero img (index 2 v), next-zero img (index 1 v))

  module _ (third : ℕ) (at_third : Some third ≡ some_page (next img 33 (address / 549755813888 % 512))) where
    third_is : next img 33 (address / 549755813888 % 512) ≡ third
    third_is = (some_page-is third (next img 33 (address / 549755813888 % 512)) at_third).0

    pub no_second : None ≡ some_page (next img third (address / 1073741824 % 512)) → walk img v ≡ 0
    no_second off =
        let none = some_page-none (next img third (address / 1073741824 % 512)) off in
        cc (none, is, third_is, next-zero img (index 2 v), next-zero img (index 1 v))

    module _ (second : ℕ) (at_second : Some second ≡ some_page (next img third (address / 1073741824 % 512))) where
      pub no_first : None ≡ some_page (next img second (address / 2097152 % 512)) → walk img v ≡ 0
      no_first off =
          let none = some_page-none (next img second (address / 2097152 % 512)) off in
          let second_is = some_page-is second (next img third (address / 1073741824 % 512)) at_second in
          cc (none, is, third_is, second_is.0, next-zero img (index 1 v))
