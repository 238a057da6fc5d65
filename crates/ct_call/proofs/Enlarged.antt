-- Levels, and partitions of a level.
use Rattle.std.proofs.Common.{◌≡◌, ℕ, zero, suc, ◌+◌, ◌^◌, ◌≤◌, List, ◌∷◌, sym, ap, subst, ◌∙◌, inl, inr, lit<, arith}
use Rattle.std.specs.Prelude.{nat_le}
use Rattle.std.proofs.lemmas.Bool.{cases_Bool, leb-true}
use Rattle.std.proofs.Math.Nat.{pow-le-pow_right}
use Rattle.ct_base.specs.Inode.{Partition, IsPart, part_bytes, part_end, number_of, free_parts}
use Rattle.ct_base.specs.Plan.{level_for, level_from}
use Rattle.ct_parts.proofs.Lengths.{partition_bounds}
use Rattle.ct_parts.proofs.Lists.{base-is, part_partition}
use Rattle.ct_call.proofs.Chosen.{first_free}

-- a level is the least whose length is enough
level_from-fits : (steps n end : ℕ) → end ≤ part_bytes (n + steps) → (end ≤ part_bytes (level_from steps n end)) × (level_from steps n end ≤ n + steps)
unfolding level_from
level_from-fits zero n end le = (subst (λ k. end ≤ part_bytes k) (let e : n + 0 ≡ n = omega arith in e) le, omega arith)
level_from-fits (suc steps) n end le = elim (cases_Bool (nat_le end (part_bytes n))) [
  | inl t ↦ rw t (leb-true end (part_bytes n) t, omega arith)
  | inr f ↦
      let more : n + 1 + steps ≡ n + suc steps = omega arith in
      let rest = level_from-fits steps (n + 1) end (subst (λ k. end ≤ part_bytes k) (sym more) le) in
      rw f (rest.0, omega (arith, rest.1))
]

pub level_fits : (end : ℕ) → end ≤ 2 ^ 39 → (end ≤ part_bytes (level_for end)) × (level_for end ≤ 9)
level_fits end le = level_from-fits 9 0 end le

pub part_bytes-le : (i j : ℕ) → i ≤ j → part_bytes i ≤ part_bytes j
part_bytes-le i j le = let p : 8 ^ i ≤ 8 ^ j = pow-le-pow_right (lit< tt) le in omega (arith, p)

-- a partition ends at the last address at most
pub part_high : (p : Partition) → IsPart p → part_end p ≤ 2 ^ 48
part_high p is = omega (arith, (partition_bounds p.level (number_of p) (part_partition p is)).1, base-is p is)

-- a partition of a level by the base of the first free one
pub first_is : (ps : List Partition) (level base : ℕ) (p : Partition) (rest : List Partition) → free_parts ps level ≡ p ∷ rest → base ≡ p.base → record { base = base; level = level } ≡ p
first_is ps level base p rest is same =
    let f : ℕ → ℕ → Partition = λ b l. record { base = b; level = l } in
    ap (λ b. f b level) same ∙ ap (f p.base) (sym (first_free ps level p rest is).level)
