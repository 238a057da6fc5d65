-- The extent with a base, and the partition of a range.
use Rattle.std.proofs.Common.{◌≡◌, ◌≢◌, ℕ, zero, suc, ◌+◌, ◌*◌, ◌^◌, ◌<◌, ◌≤◌, ◌-◌, true, false, List, ◌∷◌, length, get_or, Less, Equal, Greater, refl, sym, ap, subst, ◌∙◌, inl, inr, lit<, arith}
use Rattle.std.proofs.Math.Nat.{mul-le-mul_right, one-le-pow, pow-le-pow_right, pow-suc}
use Rattle.std.specs.Prelude.{Contains, ◌==◌, ◌&&◌, nat_le, not}
use Rattle.std.specs.List.Sorted.{IsNonDecreasingBy, IsPartitionPoint}
use Rattle.std.specs.Ordering.{nat_cmp, ordering_index}
use Rattle.std.proofs.lemmas.Bool.{and_from, and_parts, both_ways, cases_Bool, cases_eq, cases_lt, eq-eqb, eqb-true, le-leb, leb-true, ne_eqb, not-true, not_from_false, or_cases, or_left}
use Rattle.std.proofs.lemmas.Bool.Decides.{nat_tests}
use Rattle.std.proofs.lemmas.Cmp.{ranked}
use Rattle.std.proofs.lemmas.List.Elements.{Contains-get_or, at_from_Contains}
use Rattle.ct_base.specs.Headers.{is_one}
use Rattle.ct_base.specs.Inode.{has_part, inode, live_parts, part, part_bytes}
use Rattle.ct_base.specs.Rules.{ArePartsApart, Owns}
use Rattle.ct_parts.proofs.Lengths.{slots-bytes}
use Rattle.ct_parts.proofs.Lists.{is_one-rest}
use Rattle.ct_placing.specs.declared.extent.Extent.{Extent}
use Rattle.ct_placing.specs.Extents.{AreExtents, EndsAt, IsExtent}

-- what a search by base finds
module _ (xs : List Extent) (base : ℕ) where
  pub found : (at : ℕ) → at < length xs → ((d : Extent) → nat_cmp (get_or xs at d).base base ≡ Equal) → (d : Extent) → EndsAt xs base (get_or xs at d).end
  found at lt equal d = record { extent = get_or xs at d; has = Contains-get_or xs at d lt; from = ranked _ base _ (sym (equal d)); to = refl }

  rises : IsNonDecreasingBy (λ e. e.base) xs → IsNonDecreasingBy (λ e. ordering_index (nat_cmp e.base base)) xs
  rises sorted i j d le lt = let up : (get_or xs i d).base ≤ (get_or xs j d).base = sorted i j d le lt in grind (arith, nat_tests)

  pub not_found : (at : ℕ) → IsNonDecreasingBy (λ e. e.base) xs
      → (IsNonDecreasingBy (λ e. ordering_index (nat_cmp e.base base)) xs → IsPartitionPoint (λ e. nat_cmp e.base base ≡ Less) (λ e. nat_cmp e.base base ≡ Greater) xs at)
      → (e : Extent) → Contains xs e → e.base ≢ base
  not_found at sorted parted e has same =
      let p = at_from_Contains xs e has in
      let is : (get_or xs p.0 e).base ≡ base = ap (λ (f : Extent). f.base) (p.2 e) ∙ same in
      let sides = parted (rises sorted) in
      elim (cases_lt p.0 at) [
        | inl low ↦ let below : (get_or xs p.0 e).base < base = ranked _ base _ (sym (sides.0 p.0 e (omega arith) low)) in omega (arith, below, is)
        | inr high ↦ let above : base < (get_or xs p.0 e).base = ranked _ base _ (sym (sides.1 p.0 e high p.1)) in omega (arith, above, is)
      ]

-- lengths of levels
bytes_less : (m n : ℕ) → m < n → part_bytes m < part_bytes n
bytes_less m n lt =
    let more = pow-le-pow_right {n = 8} (lit< tt) {i = suc m} {j = n} (omega arith) in
    let some = one-le-pow m 8 (omega arith) in
    omega (arith, more, some, pow-suc 8 m)

bytes_same : (m n : ℕ) → part_bytes m ≡ part_bytes n → m ≡ n
bytes_same m n same = elim (cases_lt m n) [
  | inl lt ↦ absurd (omega (arith, same, bytes_less m n lt))
  | inr ge ↦ elim (cases_lt n m) [ inl lt ↦ absurd (omega (arith, same, bytes_less n m lt)) | inr le ↦ omega arith ]
]

pub range_fits : (n c : ℕ) → n ≤ 9 → c < 512 * 8 ^ (9 - n) → c * part_bytes n + part_bytes n ≤ 281474976710656
range_fits n c le lt =
    let all = slots-bytes 512 n le in
    let most = mul-le-mul_right {m = suc c} {n = 512 * 8 ^ (9 - n)} (part_bytes n) (omega arith) in
    omega (arith, most, all)

-- the list of the live inodes' partitions, one more inode looked at
module _ (b : ℕ → ℕ) where
  list_some : (m : ℕ) → has_part (inode b (suc m)) ≡ true → live_parts b (suc m) ≡ part (inode b (suc m)) ∷ live_parts b m
  unfolding live_parts
  list_some m has = rw has refl

  list_none : (m : ℕ) → has_part (inode b (suc m)) ≡ false → live_parts b (suc m) ≡ live_parts b m
  unfolding live_parts
  list_none m none = rw none refl

  list_empty : (n c : ℕ) → is_one (live_parts b 0) n c ≡ false
  unfolding live_parts
  list_empty n c = refl

  -- the partition of a live inode is in the list
  pub one_owned : (m i n c : ℕ) → 1 ≤ i → i ≤ m → (inode b i).kind ≢ 0 → (inode b i).level ≡ n → n ≤ 9 → (inode b i).base ≡ c * part_bytes n → is_one (live_parts b m) n c ≡ true
  one_owned zero i n c from to used level le base = absurd (omega arith)
  one_owned (suc m) i n c from to used level le base = elim (cases_eq i (suc m)) [
    | inl same ↦
        let f = inode b i in
        let has_i : has_part f ≡ true = and_from _ _ (not_from_false _ (ne_eqb f.kind 0 used)) (le-leb f.level 9 (omega (arith, level))) in
        let has = subst (λ (k : ℕ). has_part (inode b k) ≡ true) same has_i in
        let here : ((f.level == n) && (f.base == c * part_bytes n)) ≡ true = and_from _ _ (eq-eqb f.level n level) (eq-eqb f.base (c * part_bytes n) base) in
        let first : is_one (part f ∷ live_parts b m) n c ≡ true = or_left _ (is_one (live_parts b m) n c) here in
        ap (λ ps. is_one ps n c) (list_some m has) ∙ ap (λ k. is_one (part (inode b k) ∷ live_parts b m) n c) (sym same) ∙ first
    | inr other ↦
        let rest = one_owned m i n c from (omega arith) used level le base in
        elim (cases_Bool (has_part (inode b (suc m)))) [
          | inl has ↦ ap (λ ps. is_one ps n c) (list_some m has) ∙ is_one-rest (part (inode b (suc m))) (live_parts b m) n c rest
          | inr none ↦ ap (λ ps. is_one ps n c) (list_none m none) ∙ rest
        ]
  ]

  -- a range of the list is the partition of a live inode
  pub record IsOwned (count n c : ℕ) : Type 0 where
    pub number : ℕ
    pub own : Owns b count number
    pub level : (inode b number).level ≡ n
    pub base : (inode b number).base ≡ c * part_bytes n

  own_of : (count i : ℕ) → 1 ≤ i → i ≤ count → has_part (inode b i) ≡ true → Owns b count i
  own_of count i from to has =
      let both = and_parts (not ((inode b i).kind == 0)) (nat_le (inode b i).level 9) has in
      record {
        live = record { number = record { from = from; to = to }; used = λ z. both_ways _ (not-true _ both.0) (eq-eqb (inode b i).kind 0 z) };
        level = leb-true _ _ both.1;
      }

  pub owned_one : (count m n c : ℕ) → m ≤ count → is_one (live_parts b m) n c ≡ true → IsOwned count n c
  owned_one count zero n c le is = absurd (both_ways _ (list_empty n c) is)
  owned_one count (suc m) n c le is = elim (cases_Bool (has_part (inode b (suc m)))) [
    | inr none ↦ owned_one count m n c (omega arith) (sym (ap (λ ps. is_one ps n c) (list_none m none)) ∙ is)
    | inl has ↦
        let f = inode b (suc m) in
        let at : is_one (part f ∷ live_parts b m) n c ≡ true = sym (ap (λ ps. is_one ps n c) (list_some m has)) ∙ is in
        elim (or_cases ((f.level == n) && (f.base == c * part_bytes n)) (is_one (live_parts b m) n c) at) [
          | inl here ↦
              let both = and_parts (f.level == n) (f.base == c * part_bytes n) here in
              record { number = suc m; own = own_of count (suc m) (omega arith) le has; level = eqb-true _ _ both.0; base = eqb-true _ _ both.1 }
          | inr rest ↦ owned_one count m n c (omega arith) rest
        ]
  ]

module _ {b : ℕ → ℕ} {count : ℕ} {xs : List Extent} (es : AreExtents b count xs) where
  is_extent : (e : Extent) → Contains xs e → IsExtent b count e
  is_extent e has = let p = at_from_Contains xs e has in subst (IsExtent b count) (p.2 e) (es.each p.0 e p.1)

  -- an extent with the base of a range, and its end, is that of a live inode's partition
  pub one_from_end : (n c base end : ℕ) → n ≤ 9 → EndsAt xs base end → base ≡ c * part_bytes n → end ≡ base + part_bytes n → is_one (live_parts b count) n c ≡ true
  one_from_end n c base end le ends at to =
      let x = is_extent ends.extent ends.has in
      let f = inode b ends.extent.inode in
      let same : part_bytes f.level ≡ part_bytes n = omega (arith, x.base, x.end, ends.from, ends.to, to) in
      let live = x.owns.live in
      one_owned b count ends.extent.inode n c live.number.from live.number.to live.used (bytes_same f.level n same) le (sym x.base ∙ ends.from ∙ at)

  -- the other way
  pub record HasBase (base : ℕ) : Type 0 where
    pub extent : Extent
    pub has : Contains xs extent
    pub is : extent.base ≡ base

  pub base_from_one : (n c : ℕ) → is_one (live_parts b count) n c ≡ true → HasBase (c * part_bytes n)
  base_from_one n c one =
      let o = owned_one b count count n c (omega arith) one in
      let h = es.all o.number o.own in
      record { extent = h.extent; has = h.has; is = (is_extent h.extent h.has).base ∙ ap (λ k. (inode b k).base) h.is ∙ o.base }

  pub end_from_one : ArePartsApart b count → (n c base end : ℕ) → EndsAt xs base end → base ≡ c * part_bytes n → is_one (live_parts b count) n c ≡ true → end ≡ base + part_bytes n
  end_from_one apart n c base end ends at one =
      let o = owned_one b count count n c (omega arith) one in
      let x = is_extent ends.extent ends.has in
      let i = ends.extent.inode in
      let length : part_bytes (inode b o.number).level ≡ part_bytes n = ap part_bytes o.level in
      elim (cases_eq i o.number) [
        | inl same ↦ let level = ap (λ k. part_bytes (inode b k).level) same in omega (arith, x.base, x.end, ends.from, ends.to, level, length)
        | inr other ↦
            let some_i = one-le-pow (inode b i).level 8 (omega arith) in
            let some_o = one-le-pow (inode b o.number).level 8 (omega arith) in
            elim (apart i o.number x.owns o.own other) [
              | inl first ↦ absurd (omega (arith, first, some_i, x.base, ends.from, at, o.base))
              | inr second ↦ absurd (omega (arith, second, some_o, x.base, ends.from, at, o.base))
            ]
      ]
