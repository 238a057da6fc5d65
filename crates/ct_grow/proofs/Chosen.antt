-- The first free partition of a level.
use Rattle.std.proofs.Common.{◌≡◌, ◌≢◌, ℕ, zero, suc, ◌+◌, ◌-◌, ◌*◌, ◌^◌, true, List, [], ◌∷◌, refl, sym, ap, ◌∙◌, inl, inr}
use Rattle.std.proofs.lemmas.Bool.{cases_Bool}
use Rattle.ct_base.specs.Inode.{Partition, is_free, nth, free_from, free_parts}
use Rattle.ct_base.specs.Plan.{first_of}

free_head : (ps : List Partition) (n from count : ℕ) (p : Partition) (rest : List Partition) → free_from ps n from count ≡ p ∷ rest → (is_free ps p ≡ true) × (p.level ≡ n)
unfolding free_from
free_head ps n from zero p rest is = absurd (cc)
free_head ps n from (suc count) p rest is =
    elim (cases_Bool (is_free ps (nth n from))) [
      | inl t ↦
          let eq : nth n from ∷ free_from ps n (from + 1) count ≡ p ∷ rest = rw t at is in
          let same : nth n from ≡ p = cc in
          (ap (is_free ps) (sym same) ∙ t, ap (λ (x : Partition). x.level) (sym same))
      | inr f ↦ free_head ps n (from + 1) count p rest (rw f at is)
    ]

-- it is free, and of the level
pub first_free : (ps : List Partition) (n : ℕ) (p : Partition) (rest : List Partition) → free_parts ps n ≡ p ∷ rest → (is_free ps p ≡ true) × (p.level ≡ n)
first_free ps n p rest is = free_head ps n (10 * 8 ^ (9 - n)) (502 * 8 ^ (9 - n)) p rest is

pub first_is : (ps : List Partition) (n : ℕ) (p : Partition) (rest : List Partition) (base : ℕ) → free_parts ps n ≡ p ∷ rest → base ≡ p.base → p ≡ record { base = base; level = n }
first_is ps n p rest base is base_is =
    let f : ℕ → ℕ → Partition = λ b l. record { base = b; level = l } in
    ap (λ b. f b p.level) (sym base_is) ∙ ap (f base) (first_free ps n p rest is).1

-- the partition that growth takes is free, where there is one
pub chosen_free : (ps : List Partition) (n : ℕ) (p : Partition) → free_parts ps n ≢ [] → first_of (free_parts ps n) ≡ p → is_free ps p ≡ true
chosen_free ps n p some first = go (free_parts ps n) refl
  where
    go : (l : List Partition) → free_parts ps n ≡ l → is_free ps p ≡ true
    go [] is = absurd (some is)
    go (q ∷ rest) is =
        let same : q ≡ p = sym (ap first_of is) ∙ first in
        ap (is_free ps) (sym same) ∙ (first_free ps n q rest is).0
