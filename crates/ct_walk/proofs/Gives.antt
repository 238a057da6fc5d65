-- The pages below a table are given back entry by entry.
use Rattle.std.proofs.Common.{◌≡◌, ◌≢◌, ℕ, zero, suc, ◌+◌, ◌*◌, ◌/◌, ◌<◌, ◌≤◌, List, sym, ap, subst, ◌∙◌, ◌⊎◌, inl, inr, arith}
use Rattle.std.specs.Prelude.{Contains, ◌↔◌}
use Rattle.std.proofs.lemmas.Bool.{cases_lt}
use Rattle.ct_base.specs.Walk.{word, next, named_page, below, page_count, IsUnder, IsSubtree}
use Rattle.ct_image.proofs.Steps.{next-at, named_page-bounds, named_page-zero}
use Rattle.ct_image.proofs.Below.{below-start, below-past, under_child, under_self, under_cases, children_apart, self_apart, under_none}
use Rattle.ct_frames.specs.Free.{inserted}
use Rattle.ct_frames.proofs.Lists.{inserted_has, has_inserted, keeps_inserted}

-- The free pages are those from before and what lies below the entries of a table before entry i.
pub record Given (img before now : List ℕ) (table k i : ℕ) : Type 0 where
  pub old : (q : ℕ) → Contains before q → Contains now q
  pub new : (q j : ℕ) → j < i → IsUnder img (next img table j) k q → Contains now q
  pub only : (q : ℕ) → Contains now q → Contains before q ⊎ ((j : ℕ) × (j < i) × IsUnder img (next img table j) k q)

-- what an entry of the table of a subtree says
pub entry_none : (img : List ℕ) (table i : ℕ) → table ≢ 0 → word img (table * 512 + i) ≡ 0 → next img table i ≡ 0
entry_none img table i ne none = next-at img table i ne ∙ ap (named_page (page_count img)) none ∙ named_page-zero (page_count img)

pub entry_some : (img : List ℕ) (table k i : ℕ) → IsSubtree img table (suc k) → i < 512 → word img (table * 512 + i) ≢ 0
    → (next img table i ≢ 0) × (next img table i ≡ word img (table * 512 + i) / 4096)
entry_some img table k i sub lt ne =
    let start = below-start img table in
    let there : table ≢ 0 = λ z. omega (arith, sub.low, z) in
    let named : next img table i ≢ 0 = λ none. ne (
    ap (λ t. word img (t * 512 + i)) (sym start) ∙ sub.entries 0 0 i (omega arith) lt (λ z. there (sym start ∙ z)) (ap (λ t. next img t i) start ∙ none)) in
    let is = next-at img table i there in
    let bounds = named_page-bounds (page_count img) (word img (table * 512 + i)) (λ none. named (is ∙ none)) in
    (named, omega (arith, is, bounds.2))

pub given_none : (img before now : List ℕ) (table k i : ℕ) → Given img before now table k i → next img table i ≡ 0 → Given img before now table k (i + 1)
given_none img before now table k i g none =
    record {
      old = g.old;
      new = λ q j lt u. elim (cases_lt j i) [
        | inl less ↦ g.new q j less u
        | inr ge ↦ let same : j ≡ i = omega arith in absurd (under_none img k q (subst (λ (t : ℕ). IsUnder img t k q) (ap (next img table) same ∙ none) u))
      ];
      only = λ q c. elim (g.only q c) [ inl b ↦ inl b | inr u ↦ inr (u.0, omega (arith, u.1), u.2) ];
    }

pub given_more : (img before now after : List ℕ) (table k i : ℕ) → Given img before now table k i
    → ((q : ℕ) → Contains after q ↔ (Contains now q ⊎ IsUnder img (next img table i) k q)) → Given img before after table k (i + 1)
given_more img before now after table k i g step =
    record {
      old = λ q c. (step q).1 (inl (g.old q c));
      new = λ q j lt u. elim (cases_lt j i) [
        | inl less ↦ (step q).1 (inl (g.new q j less u))
        | inr ge ↦ let same : j ≡ i = omega arith in (step q).1 (inr (subst (λ (x : ℕ). IsUnder img (next img table x) k q) same u))
      ];
      only = λ q c. elim ((step q).0 c) [
        | inl was ↦ elim (g.only q was) [ inl b ↦ inl b | inr u ↦ inr (u.0, omega (arith, u.1), u.2) ]
        | inr u ↦ inr (i, omega arith, u)
      ];
    }

-- what lies below the next entry is not free yet
pub not_yet : (img before now : List ℕ) (table k i : ℕ) → IsSubtree img table (suc k) → Given img before now table k i → i < 512
    → ((q : ℕ) → IsUnder img table (suc k) q → Contains before q → ⊥) → (q : ℕ) → IsUnder img (next img table i) k q → Contains now q → ⊥
not_yet img before now table k i sub g lt used q u c =
    elim (g.only q c) [
      | inl was ↦ used q (under_child img table i k q lt u) was
      | inr other ↦ omega (arith, other.1, children_apart img table k i other.0 q sub lt (omega (arith, other.1)) u other.2)
    ]

-- the table itself comes last
pub given_all : (img before now : List ℕ) (table k : ℕ) → IsSubtree img table (suc k) → Given img before now table k 512
    → (q : ℕ) → Contains (inserted table now) q ↔ (Contains before q ⊎ IsUnder img table (suc k) q)
given_all img before now table k sub g q = (
  λ c. elim (inserted_has table q now c) [
    | inl is ↦ inr (subst (λ (x : ℕ). IsUnder img table (suc k) x) (sym is) (under_self img table (suc k) (λ z. omega (arith, sub.low, z))))
    | inr was ↦ elim (g.only q was) [ inl b ↦ inl b | inr u ↦ inr (under_child img table u.0 k q (omega (arith, u.1)) u.2) ]
  ],
  λ either. elim either [
    | inl b ↦ keeps_inserted table q now (g.old q b)
    | inr u ↦ elim (under_cases img table k q u) [
      | inl is ↦ subst (λ (x : ℕ). Contains (inserted table now) x) (sym is) (has_inserted table now)
      | inr child ↦ keeps_inserted table q now (g.new q child.0 child.1 child.2)
    ]
  ],
)

pub self_not_yet : (img before now : List ℕ) (table k : ℕ) → IsSubtree img table (suc k) → Given img before now table k 512
    → ((q : ℕ) → IsUnder img table (suc k) q → Contains before q → ⊥) → Contains now table → ⊥
self_not_yet img before now table k sub g used c =
    elim (g.only table c) [
      | inl was ↦ used table (under_self img table (suc k) (λ z. omega (arith, sub.low, z))) was
      | inr other ↦ self_apart img table k other.0 sub (omega (arith, other.1)) other.2
    ]

-- nothing but the page is reached by no index step
pub alone : (img : List ℕ) (table q : ℕ) → IsUnder img table 0 q → table ≡ q
alone img table q u = go u.steps u.number u.few u.is
  where
    go : (m y : ℕ) → m ≤ 0 → below img table m y ≡ q → table ≡ q
    go zero zero le is = sym (below-start img table) ∙ is
    go zero (suc y) le is = absurd (u.there (sym is ∙ below-past img table y))
    go (suc m) y le is = absurd (omega arith)

-- a page alone
pub given_alone : (img before : List ℕ) (table : ℕ) → table ≢ 0 → (q : ℕ) → Contains (inserted table before) q ↔ (Contains before q ⊎ IsUnder img table 0 q)
given_alone img before table ne q = (
  λ c. elim (inserted_has table q before c) [
    | inl is ↦ inr (subst (λ (x : ℕ). IsUnder img table 0 x) (sym is) (under_self img table 0 ne))
    | inr was ↦ inl was
  ],
  λ either. elim either [
    | inl b ↦ keeps_inserted table q before b
    | inr u ↦ subst (λ (x : ℕ). Contains (inserted table before) x) (alone img table q u) (has_inserted table before)
  ],
)
