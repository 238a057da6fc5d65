-- Which inode names a partition.
use Rattle.std.proofs.Common.{◌≡◌, ℕ, zero, suc, ◌*◌, ◌≤◌, Bool, true, false, refl, sym, ap, ◌∙◌, inl, inr, arith}
use Rattle.std.specs.Prelude.{◌&&◌, ◌||◌, ◌==◌}
use Rattle.std.proofs.lemmas.Bool.{cases_Bool, cases_eq, eq-eqb, eqb-true, and_parts, and_from, or_cases}
use Rattle.ct_base.specs.Inode.{inode, part_bytes, has_part, live_parts}
use Rattle.ct_base.specs.Headers.{is_one}

-- an inode from 1 to m whose partition is range j of level n
pub record Owner (b : ℕ → ℕ) (m n j : ℕ) : Type 0 where
  pub inode_number : ℕ
  pub from : 1 ≤ inode_number
  pub to : inode_number ≤ m
  pub has : has_part (inode b inode_number) ≡ true
  pub level : (inode b inode_number).level ≡ n
  pub base : (inode b inode_number).base ≡ j * part_bytes n

pub owner_of : (b : ℕ → ℕ) (m n j : ℕ) → is_one (live_parts b m) n j ≡ true → Owner b m n j
unfolding live_parts
owner_of b zero n j one = absurd (Rattle.std.proofs.lemmas.Bool.false≢true one)
owner_of b (suc m) n j one = elim (cases_Bool (has_part (inode b (suc m)))) [
  | inl t ↦ elim (or_cases (((inode b (suc m)).level == n) && ((inode b (suc m)).base == j * part_bytes n)) (is_one (live_parts b m) n j) (rw t at one)) [
    | inl here ↦
        let both : (((inode b (suc m)).level == n) ≡ true) × (((inode b (suc m)).base == j * part_bytes n) ≡ true) = and_parts _ _ here in
        record { inode_number = suc m; from = omega arith; to = omega arith; has = t; level = eqb-true _ _ both.0; base = eqb-true _ _ both.1 }
    | inr below ↦ let o = owner_of b m n j below in record { inode_number = o.inode_number; from = o.from; to = omega (arith, o.to); has = o.has; level = o.level; base = o.base }
  ]
  | inr f ↦ let o = owner_of b m n j (rw f at one) in record { inode_number = o.inode_number; from = o.from; to = omega (arith, o.to); has = o.has; level = o.level; base = o.base }
]

pub owner_one : (b : ℕ → ℕ) (m n j : ℕ) → Owner b m n j → is_one (live_parts b m) n j ≡ true
unfolding live_parts
owner_one b zero n j o = absurd (omega (arith, o.from, o.to))
owner_one b (suc m) n j o = elim (cases_eq o.inode_number (suc m)) [
  | inl here ↦
      let has : has_part (inode b (suc m)) ≡ true = ap (λ k. has_part (inode b k)) (sym here) ∙ o.has in
      let level : ((inode b (suc m)).level == n) ≡ true = eq-eqb _ _ (ap (λ k. (inode b k).level) (sym here) ∙ o.level) in
      let base : ((inode b (suc m)).base == j * part_bytes n) ≡ true = eq-eqb _ _ (ap (λ k. (inode b k).base) (sym here) ∙ o.base) in
      rw has (ap (λ k. k || is_one (live_parts b m) n j) (and_from _ _ level base))
  | inr other ↦
      let below = owner_one b m n j (record { inode_number = o.inode_number; from = o.from; to = omega (arith, o.to); has = o.has; level = o.level; base = o.base }) in
      elim (cases_Bool (has_part (inode b (suc m)))) [
        | inl t ↦ rw t (or_right (((inode b (suc m)).level == n) && ((inode b (suc m)).base == j * part_bytes n)) (is_one (live_parts b m) n j) below)
        | inr f ↦ rw f below
      ]
]
  where
    or_right : (a c : Bool) → c ≡ true → (a || c) ≡ true
    or_right true c is = refl
    or_right false c is = is
