-- What the plans of a write, a truncation and an exchange miss, by their short lists.
use Rattle.std.proofs.Common.{◌≡◌, ℕ, zero, suc, ◌+◌, ◌-◌, ◌*◌, ◌/◌, ◌%◌, ◌^◌, ◌<◌, ◌≤◌, List, ◌++◌, Option, Some, None, refl, ap, subst, ◌∙◌, inl, inr, arith}
use Rattle.std.specs.Prelude.{◌==◌, ◌||◌, nat_lt, nat_le}
use Rattle.std.proofs.lemmas.Bool.{cases_Bool, cases_lt, or_cases, eqb-true, eqb-false, ltb-true, ltb-false, leb-true, leb-false}
use Rattle.std.proofs.Math.Nat.{mul-mod_left, zero-mod, pow-le-pow_right}
use Rattle.ct_base.specs.declared.inode.Inode.{Inode}
use Rattle.ct_base.specs.Inode.{Partition, part, part_bytes, nth, is_free, free_from, live_parts}
use Rattle.ct_base.specs.Plan.{level_from, level_for, grows_to, first_of, next_part, growth_wants, write_wants, write_plan, truncate_plan, exchange_plan, grown}
use Rattle.ct_base.specs.Wants.{missing}
use Rattle.ct_plan.specs.Few.{IsAligned, few_write_wants, few_exchange_wants, few_write_plan, few_truncate_plan}
use Rattle.ct_plan.proofs.Same.{missing_same, same_append}
use Rattle.ct_plan.proofs.Sides.{few_both_missing, few_cut_missing}
use Rattle.ct_plan.proofs.Write.{few_write_part, few_write_first, few_write_grows}

-- a longer partition has a higher level
level_longer : (n k : ℕ) → part_bytes k < part_bytes n → k < n
level_longer n k lt = elim (cases_lt k n) [ inl ok ↦ ok | inr ge ↦ absurd (omega (arith, lt, pow-le-pow_right {n = 8} (omega arith) {i = n} {j = k} ge)) ]

-- a level that is chosen for more than a level's length is a higher one
level_more : (s n k end : ℕ) → part_bytes k < end → end ≤ part_bytes (n + s) → k < level_from s n end
unfolding level_from
level_more zero n k end over fits = level_longer n k (omega (arith, over, subst (λ (m : ℕ). end ≤ part_bytes m) (plain n) fits))
  where
    plain : (n : ℕ) → n + 0 ≡ n
    plain n = omega arith
level_more (suc s) n k end over fits = elim (cases_Bool (nat_le end (part_bytes n))) [
  | inl t ↦ rw t (level_longer n k (omega (arith, over, leb-true end (part_bytes n) t)))
  | inr f ↦ rw f (level_more s (n + 1) k end over (subst (λ (m : ℕ). end ≤ part_bytes m) (next n s) fits))
]
  where
    next : (n s : ℕ) → n + suc s ≡ n + 1 + s
    next n s = omega arith

-- a partition that growth takes begins at a multiple of its length
first_aligned : (ps : List Partition) (level j count : ℕ) → (first_of (free_from ps level j count)).base % part_bytes level ≡ 0
unfolding free_from
first_aligned ps level j zero = ap (λ n. n % part_bytes level) (omega arith) ∙ zero-mod (part_bytes level)
first_aligned ps level j (suc count) = elim (cases_Bool (is_free ps (nth level j))) [
  | inl t ↦ rw t (mul-mod_left j (part_bytes level))
  | inr f ↦ rw f (first_aligned ps level (j + 1) count)
]

next_aligned : (b : ℕ → ℕ) (count level : ℕ) → (next_part b count level).base % part_bytes level ≡ 0
next_aligned b count level = first_aligned (live_parts b count) level (10 * 8 ^ (9 - level)) (502 * 8 ^ (9 - level))

-- the wants of a write that grows, or not
grown_same : (img : List ℕ) (b : ℕ → ℕ) (count : ℕ) (f : Inode) (off len : ℕ) → IsAligned f → off + len ≤ 2 ^ 39
    → (growth : Option ℕ) → growth ≡ grows_to f (off + len)
    → missing img (grown b count f growth (write_wants f off len)).wants ≡ missing img (grown b count f growth (few_write_wants f off len)).wants
grown_same img b count f off len aligned fits None is =
    missing_same img (write_wants f off len (part f)) (few_write_wants f off len (part f)) (λ d x from to. few_write_part f off len d x from)
grown_same img b count f off len aligned fits (Some level) is =
    let new = next_part b count level in
    missing_same img (growth_wants f new ++ write_wants f off len new) (growth_wants f new ++ few_write_wants f off len new) (λ d x from to.
    same_append (growth_wants f new) (write_wants f off len new) (growth_wants f new) (few_write_wants f off len new) d x refl (elim aligned [
      | inl none ↦ few_write_first f off len new d x none from
      | inr old ↦
          let told = grows level is in
          few_write_grows f off len new level d x old.0 old.1 (told old.0).1 (next_aligned b count level) (told old.0).0 from
    ]))
  where
    grows : (level : ℕ) → Some level ≡ grows_to f (off + len) → f.level ≤ 9 → (part_bytes f.level < off + len) × (f.level < level)
    grows level is low = elim (cases_Bool ((f.level == 15) || nat_lt (part_bytes f.level) (off + len))) [
      | inr stays ↦ let none : Some level ≡ None = is ∙ Rattle.std.proofs.lemmas.Bool.cond-false _ (Some (level_for (off + len))) None stays in absurd (cc)
      | inl over_end ↦
          let some : Some level ≡ Some (level_for (off + len)) = is ∙ Rattle.std.proofs.lemmas.Bool.cond-true _ (Some (level_for (off + len))) None over_end in
          let level_is : level ≡ level_for (off + len) = cc in
          let over : part_bytes f.level < off + len = elim (or_cases (f.level == 15) (nat_lt (part_bytes f.level) (off + len)) over_end) [
            | inl none ↦ absurd (omega (arith, eqb-true f.level 15 none, low))
            | inr lt ↦ ltb-true (part_bytes f.level) (off + len) lt
          ] in
          (over, omega (arith, level_is, level_more 9 0 f.level (off + len) over (omega (arith, fits))))
    ]

-- as much is missing of the short plan of a write
pub few_write_missing : (img : List ℕ) (b : ℕ → ℕ) (count : ℕ) (f : Inode) (off len : ℕ) → IsAligned f → off + len ≤ 2 ^ 39
    → missing img (write_plan b count f off len).wants ≡ missing img (few_write_plan b count f off len).wants
few_write_missing img b count f off len aligned fits = elim (cases_Bool (len == 0)) [
  | inl none ↦ rw none refl
  | inr some ↦ rw some (grown_same img b count f off len aligned fits (grows_to f (off + len)) refl)
]

-- and of a truncation
pub few_truncate_missing : (img : List ℕ) (b : ℕ → ℕ) (count : ℕ) (f : Inode) (len : ℕ) → (len < f.size → len / 4096 < 8 ^ f.level)
    → missing img (truncate_plan b count f len).wants ≡ missing img (few_truncate_plan b count f len).wants
few_truncate_missing img b count f len fits = elim (cases_Bool (nat_lt f.size len)) [
  | inl longer ↦ rw longer refl
  | inr low ↦ rw low (elim (cases_Bool (len == f.size)) [
    | inl same ↦ rw same refl
    | inr other ↦ rw other (elim (cases_Bool (len == 0)) [
      | inl nothing ↦ rw nothing refl
      | inr some ↦
          let shorter : len < f.size = omega (arith, ltb-false f.size len low, eqb-false len f.size other) in
          rw some (few_cut_missing img f len (omega (arith, fits shorter)))
    ])
  ])
]

-- and of an exchange of at least a page
pub few_exchange_missing : (img : List ℕ) (f : Inode) (off : ℕ) (g : Inode) (other len : ℕ) → 4096 ≤ len
    → missing img (exchange_plan f off g other len).wants ≡ missing img (few_exchange_wants f off g other len)
few_exchange_missing img f off g other len some = few_both_missing img ((f.base + off) / 4096) ((g.base + other) / 4096) (len / 4096) (omega (arith, some))
