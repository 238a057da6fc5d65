-- The first free partition of a level is a partition that meets none of a live inode.
use Rattle.std.proofs.Common.{◌≡◌, ◌≢◌, [], refl, ℕ, zero, suc, ◌+◌, ◌-◌, ◌*◌, ◌^◌, ◌<◌, ◌≤◌, true, false, List, ◌∷◌, sym, ap, subst, ◌∙◌, ◌⊎◌, inl, inr, arith}
use Rattle.std.specs.Prelude.{not}
use Rattle.std.proofs.lemmas.Bool.{cases_Bool, cases_eq, cond-true, cond-false, and_parts, and_from, le-leb, ne_eqb, not-true, not_from_false}
use Rattle.ct_base.specs.Inode.{Partition, IsPart, AreApart, inode, part, nth, has_part, is_free, meets, free_from, free_parts, live_parts}
use Rattle.ct_base.specs.Plan.{first_of}
use Rattle.ct_base.specs.Rules.{Owns}
use Rattle.ct_parts.proofs.Lists.{meets-apart, partition_part}

-- partition p has a number from j on, of k, and meets none of the list
record Taken (ps : List Partition) (level j k : ℕ) (p : Partition) : Type 0 where
  number : ℕ
  from : j ≤ number
  to : number < j + k
  is : nth level number ≡ p
  free : is_free ps p ≡ true

free_head : (ps : List Partition) (level j k : ℕ) (p : Partition) (rest : List Partition) → free_from ps level j k ≡ p ∷ rest → Taken ps level j k p
unfolding free_from
free_head ps level j zero p rest is = absurd (cc)
free_head ps level j (suc k) p rest is = elim (cases_Bool (is_free ps (nth level j))) [
  | inl t ↦
      let both : nth level j ∷ free_from ps level (j + 1) k ≡ p ∷ rest = sym (cond-true _ _ _ t) ∙ is in
      let same : nth level j ≡ p = cc in
      record { number = j; from = omega arith; to = omega arith; is = same; free = ap (is_free ps) (sym same) ∙ t }
  | inr u ↦
      let later = free_head ps level (j + 1) k p rest (sym (cond-false (is_free ps (nth level j)) (nth level j ∷ free_from ps level (j + 1) k) (free_from ps level (j + 1) k) u) ∙ is) in
      record { number = later.number; from = omega (arith, later.from); to = omega (arith, later.to); is = later.is; free = later.free }
]

pub record IsFirst (ps : List Partition) (n : ℕ) (p : Partition) : Type 0 where
  pub level : p.level ≡ n
  pub part : n ≤ 9 → IsPart p
  pub free : is_free ps p ≡ true

pub first_free : (ps : List Partition) (n : ℕ) (p : Partition) (rest : List Partition) → free_parts ps n ≡ p ∷ rest → IsFirst ps n p
first_free ps n p rest is =
    let head = free_head ps n (10 * 8 ^ (9 - n)) (502 * 8 ^ (9 - n)) p rest is in
    record {
      level = ap (λ (q : Partition). q.level) (sym head.is);
      part = λ le. subst IsPart head.is (partition_part n head.number (record { level = le; low = head.from; high = omega (arith, head.to) }));
      free = head.free;
    }

-- a list that is not empty begins with its first
pub head_is : (ps : List Partition) → ps ≢ [] → (rest : List Partition) × (ps ≡ first_of ps ∷ rest)
head_is [] some = absurd (some refl)
head_is (p ∷ ps) some = (ps, refl)

-- what meets none of the list meets not the partition of an inode in it
free_live : (b : ℕ → ℕ) (m i : ℕ) (p : Partition) → 1 ≤ i → i ≤ m → has_part (inode b i) ≡ true → is_free (live_parts b m) p ≡ true → meets p (part (inode b i)) ≡ false
unfolding live_parts
free_live b zero i p from to has free = absurd (omega (arith, from, to))
free_live b (suc m) i p from to has free = elim (cases_eq i (suc m)) [
  | inl here ↦
      let last : has_part (inode b (suc m)) ≡ true = ap (λ k. has_part (inode b k)) (sym here) ∙ has in
      let both : (not (meets p (part (inode b (suc m)))) ≡ true) × (is_free (live_parts b m) p ≡ true) = and_parts _ _ (ap (λ (qs : List Partition). is_free qs p) (sym (cond-true _ _ _ last)) ∙ free) in
      ap (λ k. meets p (part (inode b k))) here ∙ not-true _ both.0
  | inr before ↦ free_live b m i p from (omega (arith, before, to)) has (rest (cases_Bool (has_part (inode b (suc m)))))
]
  where
    rest : (has_part (inode b (suc m)) ≡ true) ⊎ (has_part (inode b (suc m)) ≡ false) → is_free (live_parts b m) p ≡ true
    rest (inl t) = (and_parts (not (meets p (part (inode b (suc m))))) (is_free (live_parts b m) p) (ap (λ (qs : List Partition). is_free qs p) (sym (cond-true _ _ _ t)) ∙ free)).1
    rest (inr f) = ap (λ (qs : List Partition). is_free qs p) (sym (cond-false (has_part (inode b (suc m))) (part (inode b (suc m)) ∷ live_parts b m) (live_parts b m) f)) ∙ free

pub owner_apart : (b : ℕ → ℕ) (count i : ℕ) (p : Partition) → Owns b count i → is_free (live_parts b count) p ≡ true → AreApart p (part (inode b i))
owner_apart b count i p owns free =
    meets-apart p (part (inode b i)) (free_live b count i p owns.live.number.from owns.live.number.to
    (and_from _ _ (not_from_false _ (ne_eqb (inode b i).kind 0 owns.live.used)) (le-leb (inode b i).level 9 owns.level)) free)
