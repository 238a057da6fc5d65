-- The lowest free number is one of an inode that is free.
use Rattle.std.proofs.Common.{◌≡◌, ◌≢◌, ℕ, zero, suc, ◌+◌, ◌<◌, ◌≤◌, List, Some, None, true≢false, sym, ap, ◌∙◌, inl, inr, arith}
use Rattle.std.specs.Prelude.{◌==◌}
use Rattle.std.proofs.lemmas.Bool.{cases_Bool, cases_eq, cond-true, cond-false, eq-eqb, eqb-true}
use Rattle.ct_base.specs.Inode.{inode, IsNumber}
use Rattle.ct_base.specs.Plan.{first_free_number, free_number}
use Rattle.ct_base.specs.View.{inode_count, view}
use Rattle.ct_inode.specs.Live.{AreLiveBelow}

free_within : (b : ℕ → ℕ) (n steps x : ℕ) → free_number b n steps ≡ Some x → (n ≤ x) × (x < n + steps) × ((inode b x).kind ≡ 0)
unfolding free_number
free_within b n zero x is = absurd (cc)
free_within b n (suc steps) x is = elim (cases_Bool ((inode b n).kind == 0)) [
  | inl t ↦
      let both : Some n ≡ Some x = sym (cond-true _ _ _ t) ∙ is in
      let same : n ≡ x = cc in
      (omega (arith, same), omega (arith, same), ap (λ k. (inode b k).kind) (sym same) ∙ eqb-true _ 0 t)
  | inr u ↦
      let rest = free_within b (n + 1) steps x (sym (cond-false ((inode b n).kind == 0) (Some n) (free_number b (n + 1) steps) u) ∙ is) in
      (omega (arith, rest.0), omega (arith, rest.1), rest.2)
]

pub free_is : (b : ℕ → ℕ) (count x : ℕ) → first_free_number b count ≡ Some x → IsNumber count x × ((inode b x).kind ≡ 0)
free_is b count x is =
    let it = free_within b 1 count x is in
    (record { from = it.0; to = omega (arith, it.1) }, it.2)

-- and all below it are live
before_is : (b : ℕ → ℕ) (n steps x : ℕ) → free_number b n steps ≡ Some x → (i : ℕ) → n ≤ i → i < x → (inode b i).kind ≢ 0
unfolding free_number
before_is b n zero x is i low high = absurd (cc)
before_is b n (suc steps) x is i low high = elim (cases_Bool ((inode b n).kind == 0)) [
  | inl t ↦
      let both : Some n ≡ Some x = sym (cond-true _ _ _ t) ∙ is in
      let same : n ≡ x = cc in
      absurd (omega (arith, same))
  | inr u ↦ elim (cases_eq n i) [
    | inl here ↦ λ free. true≢false (sym (eq-eqb (inode b n).kind 0 (ap (λ k. (inode b k).kind) here ∙ free)) ∙ u)
    | inr later ↦ before_is b (n + 1) steps x (sym (cond-false ((inode b n).kind == 0) (Some n) (free_number b (n + 1) steps) u) ∙ is) i (omega (arith, later)) high
  ]
]

pub live_before : (img : List ℕ) (x : ℕ) → first_free_number (view img) (inode_count img) ≡ Some x → AreLiveBelow img x
live_before img x is i low high = record {
  number = record { from = low; to = omega (arith, (free_is (view img) (inode_count img) x is).0.to) };
  used = before_is (view img) 1 (inode_count img) x is i low high;
}

-- as the device tells how many inodes there are
pub first_number : (b : ℕ → ℕ) (count told x : ℕ) → told ≡ count → Some x ≡ first_free_number b told → first_free_number b count ≡ Some x
first_number b count told x same is = sym (is ∙ ap (first_free_number b) same)

pub no_number : (b : ℕ → ℕ) (count told : ℕ) → told ≡ count → None ≡ first_free_number b told → first_free_number b count ≡ None
no_number b count told same is = sym (is ∙ ap (first_free_number b) same)
