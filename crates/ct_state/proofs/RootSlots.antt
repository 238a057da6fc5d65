-- Where no partition of a level is free, each root slot from 10 on has a live partition.
use Rattle.std.proofs.Common.{◌≡◌, ℕ, zero, suc, ◌+◌, ◌-◌, ◌*◌, ◌/◌, ◌^◌, ◌<◌, ◌≤◌, true, false, List, [], ◌∷◌, length, refl, sym, ap, ◌∙◌, subst, inl, inr, lit<, arith}
use Rattle.std.specs.Prelude.{◌==◌, ◌&&◌, nat_le, nat_lt, not}
use Rattle.std.proofs.lemmas.Bool.{cases_Bool, cases_eq, cases_lt, eq-eqb, and_parts, and_cases, both_ways, leb-true, ltb-true, not-true, not-false}
use Rattle.std.proofs.lemmas.Nat.{mul-le}
use Rattle.ct_base.specs.Inode.{inode, Partition, IsPart, part, part_bytes, part_end, has_part, live_parts, meets, is_free, nth, number_of, free_from, free_parts}
use Rattle.ct_base.specs.Rules.{ArePlaced, Owns}
use Rattle.ct_parts.proofs.Lengths.{pow8_small, slots-bytes, number_range}
use Rattle.ct_parts.proofs.Lists.{base-is}
use Rattle.ct_state.specs.Live.{live_count}
use Rattle.ct_state.proofs.Counted.{IsAmong, AreOnce, listed_most}

-- where none is listed, none is free
none_listed : (ps : List Partition) (level j k x : ℕ) → free_from ps level j k ≡ [] → j ≤ x → x < j + k → is_free ps (nth level x) ≡ false
unfolding free_from
none_listed ps level j zero x none from to = absurd (omega arith)
none_listed ps level j (suc k) x none from to = elim (cases_Bool (is_free ps (nth level j))) [
  | inl free ↦ let some : nth level j ∷ free_from ps level (j + 1) k ≡ [] = rw free at none in absurd (cc)
  | inr taken ↦ elim (cases_eq x j) [
    | inl here ↦ ap (λ y. is_free ps (nth level y)) here ∙ taken
    | inr after ↦ none_listed ps level (j + 1) k x (rw taken at none) (omega arith) (omega arith)
  ]
]

-- an inode from 1 to m whose partition meets a range
record Meets (b : ℕ → ℕ) (m : ℕ) (p : Partition) : Type 0 where
  number : ℕ
  from : 1 ≤ number
  to : number ≤ m
  has : has_part (inode b number) ≡ true
  meets : meets p (part (inode b number)) ≡ true

-- what is not free meets one
taken_by : (b : ℕ → ℕ) (m : ℕ) (p : Partition) → is_free (live_parts b m) p ≡ false → Meets b m p
unfolding live_parts
taken_by b zero p taken = absurd (both_ways (nat_lt 0 1) taken refl)
taken_by b (suc m) p taken =
    let before : is_free (live_parts b m) p ≡ false → Meets b (suc m) p = λ t. let w = taken_by b m p t in record { number = w.number; from = w.from; to = omega (arith, w.to); has = w.has; meets = w.meets } in
    elim (cases_Bool (has_part (inode b (suc m)))) [
      | inl has ↦
          let split : (not (meets p (part (inode b (suc m)))) && is_free (live_parts b m) p) ≡ false = rw has at taken in
          elim (and_cases (not (meets p (part (inode b (suc m))))) (is_free (live_parts b m) p) split) [
            | inl here ↦ record { number = suc m; from = omega arith; to = omega arith; has = has; meets = not-false (meets p (part (inode b (suc m)))) here }
            | inr more ↦ before more
          ]
      | inr none ↦ before (rw none at taken)
    ]

-- it owns its partition, which is one
owned : (b : ℕ → ℕ) (count : ℕ) (p : Partition) (w : Meets b count p) → Owns b count w.number
owned b count p w =
    let both = and_parts (not ((inode b w.number).kind == 0)) (nat_le (inode b w.number).level 9) w.has in
    record {
      live = record { number = record { from = w.from; to = w.to }; used = λ z. both_ways _ (not-true _ both.0) (eq-eqb (inode b w.number).kind 0 z) };
      level = leb-true _ _ both.1;
    }

owned_part : (b : ℕ → ℕ) (count i : ℕ) → ArePlaced b count → Owns b count i → IsPart (part (inode b i))
owned_part b count i placed o =
    elim (placed i o.live).place [ inl none ↦ absurd (omega (arith, none.level, o.level)) | inr room ↦ room.part ]

-- a partition lies in one root slot: in that of a range that it meets
slot_met : (q : Partition) (level s : ℕ) → IsPart q → level ≤ 9 → meets (nth level (s * 8 ^ (9 - level))) q ≡ true → q.base / 549755813888 ≡ s
slot_met q level s is le meet =
    let both = and_parts (nat_lt (s * 8 ^ (9 - level) * part_bytes level) (part_end q)) (nat_lt q.base (part_end (nth level (s * 8 ^ (9 - level))))) meet in
    let start = slots-bytes s level le in
    let starts : s * 549755813888 < part_end q = omega (arith, ltb-true _ _ both.0, start) in
    let ends : q.base < s * 549755813888 + part_bytes level = omega (arith, ltb-true _ _ both.1, start) in
    let base = base-is q is in
    elim (cases_lt q.base (s * 549755813888)) [
      | inl before ↦
          let whole = slots-bytes s q.level is.level in
          elim (cases_lt (number_of q) (s * 8 ^ (9 - q.level))) [
            | inl lt ↦ absurd (omega (arith, mul-le (number_of q + 1) (part_bytes q.level) (s * 8 ^ (9 - q.level)) (part_bytes q.level) (omega arith) (omega arith), whole, base, starts))
            | inr ge ↦ absurd (omega (arith, mul-le (s * 8 ^ (9 - q.level)) (part_bytes q.level) (number_of q) (part_bytes q.level) ge (omega arith), whole, base, before))
          ]
      | inr from ↦ number_range s q.base 549755813888 (lit< tt) from (omega (arith, ends, (pow8_small level le).0))
    ]

-- a live inode whose partition lies in a root slot
record HasSlot (b : ℕ → ℕ) (count slot : ℕ) : Type 0 where
  number : ℕ
  owns : Owns b count number
  is : (inode b number).base / 549755813888 ≡ slot

-- live inodes with partitions in k root slots, one in each
record Crowd (b : ℕ → ℕ) (count k : ℕ) : Type 0 where
  numbers : List ℕ
  many : length numbers ≡ k
  once : AreOnce numbers
  owns : (x : ℕ) → IsAmong x numbers → Owns b count x
  low : (x : ℕ) → IsAmong x numbers → (inode b x).base / 549755813888 < 10 + k

module _ (b : ℕ → ℕ) (count level : ℕ) (le : level ≤ 9) (placed : ArePlaced b count) (none : free_parts (live_parts b count) level ≡ []) where
  slot_has : (s : ℕ) → 10 ≤ s → s < 512 → HasSlot b count s
  slot_has s from to =
      let pos = (pow8_small (9 - level) (omega arith)).1 in
      let low = mul-le 10 (8 ^ (9 - level)) s (8 ^ (9 - level)) from (omega arith) in
      let high = mul-le (s + 1) (8 ^ (9 - level)) 512 (8 ^ (9 - level)) (omega arith) (omega arith) in
      let taken = none_listed (live_parts b count) level (10 * 8 ^ (9 - level)) (502 * 8 ^ (9 - level)) (s * 8 ^ (9 - level)) none low (omega (arith, high, pos)) in
      let w = taken_by b count (nth level (s * 8 ^ (9 - level))) taken in
      let owns = owned b count (nth level (s * 8 ^ (9 - level))) w in
      record { number = w.number; owns = owns; is = slot_met (part (inode b w.number)) level s (owned_part b count w.number placed owns) le w.meets }

  crowd : (k : ℕ) → k ≤ 502 → Crowd b count k
  crowd zero few = record { numbers = []; many = refl; once = tt; owns = λ x h. absurd h; low = λ x h. absurd h }
  crowd (suc k) few =
      let rest = crowd k (omega arith) in
      let next = slot_has (10 + k) (omega arith) (omega arith) in
      record {
        numbers = next.number ∷ rest.numbers;
        many = omega (arith, rest.many);
        once = (λ h. omega (arith, rest.low next.number h, next.is), rest.once);
        owns = λ x h. elim h [ inl is ↦ subst (Owns b count) (sym is) next.owns | inr more ↦ rest.owns x more ];
        low = λ x h. elim h [ inl is ↦ omega (arith, ap (λ j. (inode b j).base / 549755813888) is, next.is) | inr more ↦ omega (arith, rest.low x more) ];
      }

  pub slots_live : 502 ≤ live_count b count
  slots_live =
      let c = crowd 502 (omega arith) in
      omega (arith, c.many, listed_most b count c.numbers c.once (λ x h. (c.owns x h).live))
