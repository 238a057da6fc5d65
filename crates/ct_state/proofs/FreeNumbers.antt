-- The lowest number of a free inode, and how many inodes are live.
use Rattle.std.proofs.Common.{◌≡◌, ◌≢◌, ℕ, zero, suc, ◌+◌, ◌<◌, ◌≤◌, true, Option, Some, None, refl, sym, ap, ◌∙◌, inl, inr, arith}
use Rattle.std.specs.Prelude.{◌==◌}
use Rattle.std.proofs.lemmas.Bool.{cases_Bool, cases_eq, eqb-true, eqb-false, eq-eqb, ne_eqb}
use Rattle.ct_base.specs.Inode.{inode}
use Rattle.ct_base.specs.Plan.{free_number, first_free_number}
use Rattle.ct_state.specs.Live.{live_count}

pub live_most : (b : ℕ → ℕ) (n : ℕ) → live_count b n ≤ n
unfolding live_count
live_most b zero = omega arith
live_most b (suc n) =
    let rest = live_most b n in
    elim (cases_Bool ((inode b (suc n)).kind == 0)) [ inl free ↦ rw free (omega (arith, rest)) | inr used ↦ rw used (omega (arith, rest)) ]

live_all : (b : ℕ → ℕ) (n : ℕ) → ((i : ℕ) → 1 ≤ i → i ≤ n → (inode b i).kind ≢ 0) → live_count b n ≡ n
unfolding live_count
live_all b zero all = refl
live_all b (suc n) all =
    let rest = live_all b n (λ i from to. all i from (omega arith)) in
    rw (ne_eqb (inode b (suc n)).kind 0 (all (suc n) (omega arith) (omega arith))) (omega (arith, rest))

live_less : (b : ℕ → ℕ) (n i : ℕ) → 1 ≤ i → i ≤ n → (inode b i).kind ≡ 0 → live_count b n < n
unfolding live_count
live_less b zero i from to free = absurd (omega arith)
live_less b (suc n) i from to free = elim (cases_eq i (suc n)) [
  | inl here ↦
      let last : ((inode b (suc n)).kind == 0) ≡ true = eq-eqb _ _ (ap (λ k. (inode b k).kind) (sym here) ∙ free) in
      rw last (omega (arith, live_most b n))
  | inr before ↦
      let rest = live_less b n i from (omega arith) free in
      elim (cases_Bool ((inode b (suc n)).kind == 0)) [ inl z ↦ rw z (omega (arith, rest)) | inr used ↦ rw used (omega (arith, rest)) ]
]

-- where no number is found, none is free
none_free : (b : ℕ → ℕ) (n steps : ℕ) → free_number b n steps ≡ None → (i : ℕ) → n ≤ i → i < n + steps → (inode b i).kind ≢ 0
unfolding free_number
none_free b n zero none i from to = absurd (omega arith)
none_free b n (suc steps) none i from to = elim (cases_Bool ((inode b n).kind == 0)) [
  | inl free ↦ let some : Some n ≡ None = rw free at none in absurd (cc)
  | inr used ↦ elim (cases_eq i n) [
    | inl here ↦ λ z. eqb-false (inode b n).kind 0 used (ap (λ k. (inode b k).kind) (sym here) ∙ z)
    | inr after ↦ none_free b (n + 1) steps (rw used at none) i (omega arith) (omega arith)
  ]
]

-- what is found is free
pub record IsFreeNumber (b : ℕ → ℕ) (n steps i : ℕ) : Type 0 where
  pub from : n ≤ i
  pub to : i < n + steps
  pub free : (inode b i).kind ≡ 0

some_free : (b : ℕ → ℕ) (n steps i : ℕ) → free_number b n steps ≡ Some i → IsFreeNumber b n steps i
unfolding free_number
some_free b n zero i some = absurd (cc)
some_free b n (suc steps) i some = elim (cases_Bool ((inode b n).kind == 0)) [
  | inl free ↦
      let is : Some n ≡ Some i = rw free at some in
      let same : n ≡ i = cc in
      record { from = omega (arith, same); to = omega (arith, same); free = ap (λ k. (inode b k).kind) (sym same) ∙ eqb-true _ _ free }
  | inr used ↦
      let later = some_free b (n + 1) steps i (rw used at some) in
      record { from = omega (arith, later.from); to = omega (arith, later.to); free = later.free }
]

-- no number is free exactly where all are live
pub none_all : (b : ℕ → ℕ) (count : ℕ) → first_free_number b count ≡ None → live_count b count ≡ count
none_all b count none = live_all b count (λ i from to. none_free b 1 count none i from (omega arith))

pub some_less : (b : ℕ → ℕ) (count i : ℕ) → first_free_number b count ≡ Some i → live_count b count < count
some_less b count i some =
    let f = some_free b 1 count i some in
    live_less b count i f.from (omega (arith, f.to)) f.free

pub all_none : (b : ℕ → ℕ) (count : ℕ) → live_count b count ≡ count → first_free_number b count ≡ None
all_none b count all = cases (first_free_number b count) refl
  where
    cases : (o : Option ℕ) → first_free_number b count ≡ o → first_free_number b count ≡ None
    cases None is = is
    cases (Some i) is = absurd (omega (arith, some_less b count i is, all))
