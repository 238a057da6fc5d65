-- Lists of partitions that do not meet, as live sets.
use Rattle.std.proofs.Common.{◌≡◌, ℕ, zero, suc, ◌+◌, ◌-◌, ◌*◌, ◌/◌, ◌^◌, ◌<◌, ◌≤◌, true, false, List, [], ◌∷◌, refl, sym, ap, ◌∙◌, subst, ◌⊎◌, inl, inr, arith}
use Rattle.std.specs.Prelude.{◌==◌, ◌&&◌, ◌||◌, nat_lt, not}
use Rattle.std.proofs.Math.Nat.{mul-div_cancel, div-add-mod}
use Rattle.std.proofs.lemmas.Bool.{cases_lt, cases_eq, cases_Bool, eq-eqb, eqb-true, and_parts, and_from, or_cases, both_ways, false_from_ne_true, ltb-true, lt-ltb, not-true, not_from_false}
use Rattle.ct_base.specs.Inode.{Partition, number_of, part_bytes, part_end, IsPart, AreApart, meets, is_free, nth, free_from, free_parts}
use Rattle.ct_base.specs.Headers.{is_one, AreDisjoint, without}
use Rattle.ct_base.specs.Ranges.{Meet, IsPartition, IsFree, IsFirstFree, IsLiveSet, Changes, NoneIn}
use Rattle.ct_parts.proofs.Bytes.{byte-live, zero_from}
use Rattle.ct_parts.proofs.Free.{in-meet}
use Rattle.ct_parts.proofs.Lengths.{pow8_small, at_partition, base_there}

-- ---- one partition

pub number-is : (p : Partition) (j : ℕ) → p.base ≡ j * part_bytes p.level → p.level ≤ 9 → j ≡ number_of p
number-is p j is le = sym (ap (λ b. b / part_bytes p.level) is ∙ mul-div_cancel j (omega (arith, (pow8_small p.level le).1)))

pub number-nth : (n j : ℕ) → n ≤ 9 → number_of (nth n j) ≡ j
number-nth n j le = sym (number-is (nth n j) j refl le)

pub base-is : (p : Partition) → IsPart p → p.base ≡ number_of p * part_bytes p.level
base-is p part = omega (arith, div-add-mod p.base (part_bytes p.level), part.aligned)

pub nth-number : (p : Partition) → IsPart p → nth p.level (number_of p) ≡ p
nth-number p part = let f : ℕ → Partition = λ b. record { base = b; level = p.level } in sym (ap f (base-is p part))

pub part_partition : (p : Partition) → IsPart p → IsPartition p.level (number_of p)
part_partition p part = at_partition p.level p.base (part_bytes p.level) part.level part.high part.low refl

pub partition_part : (n j : ℕ) → IsPartition n j → IsPart (nth n j)
partition_part n j p =
    let b = base_there n j (part_bytes n) p refl in
    record { level = p.level; aligned = b.2; low = b.0; high = b.1 }

-- ---- the set of a list

pub is_one-first : (p : Partition) (ps : List Partition) → IsPart p → is_one (p ∷ ps) p.level (number_of p) ≡ true
is_one-first p ps part =
    let at : (p.base == number_of p * part_bytes p.level) ≡ true = eq-eqb _ _ (base-is p part) in
    let both : ((p.level == p.level) && (p.base == number_of p * part_bytes p.level)) ≡ true = and_from _ _ (eq-eqb p.level p.level refl) at in
    rw both refl

pub is_one-cases : (p : Partition) (ps : List Partition) (n j : ℕ) → p.level ≤ 9 → is_one (p ∷ ps) n j ≡ true → ((n ≡ p.level) × (j ≡ number_of p)) ⊎ (is_one ps n j ≡ true)
is_one-cases p ps n j le is =
    elim (or_cases ((p.level == n) && (p.base == j * part_bytes n)) (is_one ps n j) is) [
      | inl here ↦
          let both = and_parts (p.level == n) (p.base == j * part_bytes n) here in
          let level : n ≡ p.level = sym (eqb-true _ _ both.0) in
          inl (level, number-is p j (eqb-true _ _ both.1 ∙ ap (λ k. j * part_bytes k) level) le)
      | inr rest ↦ inr rest
    ]

pub is_one-off : (p : Partition) (ps : List Partition) (n j : ℕ) → p.level ≤ 9 → (n ≡ p.level → j ≡ number_of p → ⊥) → is_one (p ∷ ps) n j ≡ is_one ps n j
is_one-off p ps n j le off =
    elim (cases_Bool ((p.level == n) && (p.base == j * part_bytes n))) [
      | inl is ↦
          let both = and_parts (p.level == n) (p.base == j * part_bytes n) is in
          let level : n ≡ p.level = sym (eqb-true _ _ both.0) in
          absurd (off level (number-is p j (eqb-true _ _ both.1 ∙ ap (λ k. j * part_bytes k) level) le))
      | inr not ↦ rw not refl
    ]

-- a member of the rest is a member
pub is_one-rest : (p : Partition) (ps : List Partition) (k i : ℕ) → is_one ps k i ≡ true → is_one (p ∷ ps) k i ≡ true
is_one-rest p ps k i is =
    elim (cases_Bool ((p.level == k) && (p.base == i * part_bytes k))) [ inl here ↦ rw here refl | inr off ↦ rw off is ]

-- ---- ranges that meet a partition

pub meets-from : (q : Partition) (n j : ℕ) → IsPart q → Meet q.level (number_of q) n j → meets (nth n j) q ≡ true
meets-from q n j part m =
    let b = base-is q part in
    and_from _ _
    (lt-ltb (j * part_bytes n) (part_end q) (omega (arith, b, m.1)))
    (lt-ltb q.base (part_end (nth n j)) (omega (arith, b, m.0)))

pub meets-meet : (q : Partition) (n j : ℕ) → IsPart q → meets (nth n j) q ≡ true → Meet q.level (number_of q) n j
meets-meet q n j part is =
    let b = base-is q part in
    let both = and_parts (nat_lt (j * part_bytes n) (part_end q)) (nat_lt q.base (part_end (nth n j))) is in
    (omega (arith, b, ltb-true _ _ both.1), omega (arith, b, ltb-true _ _ both.0))

-- the test tells that two ranges are apart
pub apart-meets : (p q : Partition) → AreApart p q → meets p q ≡ false
apart-meets p q apart =
    false_from_ne_true (meets p q) (λ is.
    let both = and_parts (nat_lt p.base (part_end q)) (nat_lt q.base (part_end p)) is in
    elim apart [ inl le ↦ omega (arith, le, ltb-true _ _ both.1) | inr le ↦ omega (arith, le, ltb-true _ _ both.0) ])

pub meets-apart : (p q : Partition) → meets p q ≡ false → AreApart p q
meets-apart p q not =
    elim (cases_lt p.base (part_end q)) [
      | inr le ↦ inr le
      | inl lt ↦ elim (cases_lt q.base (part_end p)) [
        | inr le ↦ inl le
        | inl lt' ↦ absurd (both_ways (meets p q) not (and_from (nat_lt p.base (part_end q)) (nat_lt q.base (part_end p)) (lt-ltb _ _ lt) (lt-ltb _ _ lt')))
      ]
    ]

-- the test tells a free range
pub is_free-is : (ps : List Partition) (n j : ℕ) → AreDisjoint ps → is_free ps (nth n j) ≡ true → IsFree (is_one ps) n j
is_free-is [] n j a is k i l m = both_ways false refl l
is_free-is (p ∷ ps) n j a is k i l m =
    let both = and_parts (not (meets (nth n j) p)) (is_free ps (nth n j)) is in
    elim (is_one-cases p ps k i a.0.level l) [
      | inl here ↦
          let m' : Meet p.level (number_of p) n j = subst (λ (x : ℕ). Meet x (number_of p) n j) here.0 (subst (λ (y : ℕ). Meet k y n j) here.1 m) in
          both_ways _ (not-true _ both.0) (meets-from p n j a.0 m')
      | inr rest ↦ is_free-is ps n j a.2 both.1 k i rest m
    ]

pub is_free-from : (ps : List Partition) (n j : ℕ) → AreDisjoint ps → IsFree (is_one ps) n j → is_free ps (nth n j) ≡ true
is_free-from [] n j a free = refl
is_free-from (p ∷ ps) n j a free =
    and_from (not (meets (nth n j) p)) (is_free ps (nth n j))
    (not_from_false _ (false_from_ne_true _ (λ m. free p.level (number_of p) (is_one-first p ps a.0) (meets-meet p n j a.0 m))))
    (is_free-from ps n j a.2 (λ k i l m. free k i (is_one-rest p ps k i l) m))

-- the same of a partition
pub part_free : (ps : List Partition) (p : Partition) → IsPart p → AreDisjoint ps → is_free ps p ≡ true → IsFree (is_one ps) p.level (number_of p)
part_free ps p part a is = is_free-is ps p.level (number_of p) a (ap (is_free ps) (nth-number p part) ∙ is)

-- the set of partitions that do not meet
pub live_set : (ps : List Partition) → AreDisjoint ps → IsLiveSet (is_one ps)
live_set [] a = record { partition = λ n j is. absurd (both_ways false refl is); apart = λ n j d is. absurd (both_ways false refl is) }
live_set (p ∷ ps) a =
    let rest = live_set ps a.2 in
    let le = a.0.level in
    let free = part_free ps p a.0 a.2 a.1 in
    let P = part_partition p a.0 in
    record {
      partition = λ n j is. elim (is_one-cases p ps n j le is) [
        | inl here ↦ subst (λ (x : ℕ). IsPartition x j) (sym here.0) (subst (λ (x : ℕ). IsPartition p.level x) (sym here.1) P)
        | inr more ↦ rest.partition n j more
      ];
      apart = λ n j d is. false_from_ne_true (is_one (p ∷ ps) (n + suc d) (j / 8 ^ suc d)) (λ up.
          let meet = in-meet n (suc d) j in
          elim (is_one-cases p ps n j le is) [
            | inl here ↦ elim (is_one-cases p ps (n + suc d) (j / 8 ^ suc d) le up) [
              | inl above ↦ absurd (omega (arith, here.0, above.0))
              | inr above ↦
                  free (n + suc d) (j / 8 ^ suc d) above
                  (subst (λ (x : ℕ). Meet (n + suc d) (j / 8 ^ suc d) x (number_of p)) here.0 (subst (λ (x : ℕ). Meet (n + suc d) (j / 8 ^ suc d) n x) here.1 (meet.1, meet.0)))
            ]
            | inr more ↦ elim (is_one-cases p ps (n + suc d) (j / 8 ^ suc d) le up) [
              | inl above ↦
                  free n j more (subst (λ (x : ℕ). Meet n j x (number_of p)) above.0 (subst (λ (x : ℕ). Meet n j (n + suc d) x) above.1 meet))
              | inr above ↦ both_ways (is_one ps (n + suc d) (j / 8 ^ suc d)) (rest.apart n j d more) above
            ]
          ]);
    }

-- ---- a partition joins a list, and leaves it

pub join : (ps : List Partition) (q : Partition) → AreDisjoint (q ∷ ps) → Changes (is_one ps) (is_one (q ∷ ps)) q.level (number_of q) 16
join ps q a =
    record {
      off = λ n j ne. is_one-off q ps n j a.0.level ne;
      partition = part_partition q a.0;
      above = λ d le. (live_set (q ∷ ps) a).apart q.level (number_of q) d (is_one-first q ps a.0);
      is = sym (byte-live (is_one (q ∷ ps)) q.level (number_of q) (is_one-first q ps a.0));
    }

pub without-gone : (p : Partition) (ps : List Partition) → IsPart p → is_one (without p ps) p.level (number_of p) ≡ false
unfolding without
without-gone p [] part = refl
without-gone p (q ∷ ps) part =
    elim (cases_Bool ((q.level == p.level) && (q.base == p.base))) [
      | inl is ↦ rw is (without-gone p ps part)
      | inr not ↦
          let not' : ((q.level == p.level) && (q.base == number_of p * part_bytes p.level)) ≡ false = ap (λ b. (q.level == p.level) && (q.base == b)) (sym (base-is p part)) ∙ not in
          rw (not, not') (without-gone p ps part)
    ]

pub without-others : (p : Partition) (ps : List Partition) (k i : ℕ) → p.level ≤ 9 → (k ≡ p.level → i ≡ number_of p → ⊥) → is_one (without p ps) k i ≡ is_one ps k i
unfolding without
without-others p [] k i le ne = refl
without-others p (q ∷ ps) k i le ne =
    elim (cases_Bool ((q.level == p.level) && (q.base == p.base))) [
      | inl is ↦
          let here = and_parts (q.level == p.level) (q.base == p.base) is in
          let level = eqb-true q.level p.level here.0 in
          let base = eqb-true q.base p.base here.1 in
          elim (cases_Bool ((q.level == k) && (q.base == i * part_bytes k))) [
            | inl too ↦
                let at = and_parts (q.level == k) (q.base == i * part_bytes k) too in
                let k_is : k ≡ p.level = sym (eqb-true _ _ at.0) ∙ level in
                absurd (ne k_is (number-is p i (sym base ∙ eqb-true _ _ at.1 ∙ ap (λ l. i * part_bytes l) k_is) le))
            | inr off ↦ rw (is, off) (without-others p ps k i le ne)
          ]
      | inr not ↦ rw not (ap (λ b. ((q.level == k) && (q.base == i * part_bytes k)) || b) (without-others p ps k i le ne))
    ]

-- what is in the rest of the list was in the list
pub without-in : (p : Partition) (ps : List Partition) (k i : ℕ) → IsPart p → is_one (without p ps) k i ≡ true → is_one ps k i ≡ true
without-in p ps k i part is =
    elim (cases_eq k p.level) [
      | inr off ↦ sym (without-others p ps k i part.level (λ a b. off a)) ∙ is
      | inl level ↦ elim (cases_eq i (number_of p)) [
        | inr off ↦ sym (without-others p ps k i part.level (λ a b. off b)) ∙ is
        | inl number ↦
            absurd (both_ways (is_one (without p ps) p.level (number_of p)) (without-gone p ps part)
            (subst (λ (x : ℕ). is_one (without p ps) p.level x ≡ true) number (subst (λ (x : ℕ). is_one (without p ps) x i ≡ true) level is)))
      ]
    ]

-- what meets none of a list meets none of its rest
pub without-free : (p : Partition) (ps : List Partition) (q : Partition) → is_free ps q ≡ true → is_free (without p ps) q ≡ true
unfolding without
without-free p [] q is = is
without-free p (x ∷ ps) q is =
    let both = and_parts (not (meets q x)) (is_free ps q) is in
    elim (cases_Bool ((x.level == p.level) && (x.base == p.base))) [
      | inl here ↦ rw here (without-free p ps q both.1)
      | inr off ↦ rw off (and_from _ _ both.0 (without-free p ps q both.1))
    ]

pub without-disjoint : (p : Partition) (ps : List Partition) → AreDisjoint ps → AreDisjoint (without p ps)
unfolding without
without-disjoint p [] a = a
without-disjoint p (q ∷ ps) a =
    elim (cases_Bool ((q.level == p.level) && (q.base == p.base))) [
      | inl is ↦ rw is (without-disjoint p ps a.2)
      | inr not ↦ rw not (a.0, without-free p ps q a.1, without-disjoint p ps a.2)
    ]

pub leave : (ps : List Partition) (p : Partition) → IsPart p → AreDisjoint ps → is_one ps p.level (number_of p) ≡ true → Changes (is_one ps) (is_one (without p ps)) p.level (number_of p) 0
leave ps p part a is =
    let n = p.level in
    let j = number_of p in
    let set = live_set ps a in
    let new = is_one (without p ps) in
    record {
      off = λ k i ne. without-others p ps k i part.level ne;
      partition = set.partition n j is;
      above = λ d le. false_from_ne_true (new (n + suc d) (j / 8 ^ suc d)) (λ up.
          both_ways (is_one ps (n + suc d) (j / 8 ^ suc d)) (set.apart n j d is) (without-in p ps (n + suc d) (j / 8 ^ suc d) part up));
      is = sym (zero_from new n j (none set));
    }
  where
    none : IsLiveSet (is_one ps) → NoneIn (is_one (without p ps)) p.level (number_of p)
    none set zero k i at in_ =
        let level : p.level ≡ k = omega arith in
        let number : number_of p ≡ i = sym in_ ∙ omega arith in
        subst (λ (x : ℕ). is_one (without p ps) k x ≡ false) number (subst (λ (x : ℕ). is_one (without p ps) x (number_of p) ≡ false) level (without-gone p ps part))
    none set (suc d) k i at in_ =
        false_from_ne_true (is_one (without p ps) k i) (λ in_new.
        both_ways (is_one ps p.level (number_of p))
        (subst (λ (x : ℕ). is_one ps x (number_of p) ≡ false) at (subst (λ (x : ℕ). is_one ps (k + suc d) x ≡ false) in_ (set.apart k i d (without-in p ps k i part in_new))))
        is)

-- ---- the list of the free partitions of a level

first_of : (ps : List Partition) (n from count j : ℕ) → from ≤ j → j < from + count → is_free ps (nth n j) ≡ true
    → ((x : ℕ) → from ≤ x → x < j → is_free ps (nth n x) ≡ false) → (rest : List Partition) × (free_from ps n from count ≡ nth n j ∷ rest)
unfolding free_from
first_of ps n from zero j low high is before = absurd (omega arith)
first_of ps n from (suc count) j low high is before =
    elim (cases_eq from j) [
      | inl here ↦ (free_from ps n (from + 1) count, rw (ap (λ x. is_free ps (nth n x)) here ∙ is) (ap (λ k. nth n k ∷ free_from ps n (from + 1) count) here))
      | inr off ↦
          let more = first_of ps n (from + 1) count j (omega arith) (omega arith) is (λ x lo lt. before x (omega arith) lt) in
          (more.0, rw (before from (omega arith) (omega arith)) more.1)
    ]

none_of : (ps : List Partition) (n from count : ℕ) → ((x : ℕ) → from ≤ x → x < from + count → is_free ps (nth n x) ≡ false) → free_from ps n from count ≡ []
unfolding free_from
none_of ps n from zero none = refl
none_of ps n from (suc count) none = rw (none from (omega arith) (omega arith)) (none_of ps n (from + 1) count (λ x lo hi. none x (omega arith) (omega arith)))

-- the first free partition is the first of the list
pub first_parts : (ps : List Partition) (n j : ℕ) → AreDisjoint ps → IsFirstFree (is_one ps) n j → (rest : List Partition) × (free_parts ps n ≡ nth n j ∷ rest)
first_parts ps n j a f =
    let p = f.partition in
    let low = p.low in
    let high = p.high in
    first_of ps n (10 * 8 ^ (9 - n)) (502 * 8 ^ (9 - n)) j low (omega arith) (is_free-from ps n j a f.free)
    (λ x lo lt. false_from_ne_true (is_free ps (nth n x)) (λ is.
    omega (arith, f.first x (record { level = p.level; low = lo; high = omega arith }) (is_free-is ps n x a is))))

pub no_parts : (ps : List Partition) (n : ℕ) → n ≤ 9 → AreDisjoint ps → ((x : ℕ) → IsPartition n x → IsFree (is_one ps) n x → ⊥) → free_parts ps n ≡ []
no_parts ps n le a none =
    none_of ps n (10 * 8 ^ (9 - n)) (502 * 8 ^ (9 - n))
    (λ x lo hi. false_from_ne_true (is_free ps (nth n x)) (λ is. none x (record { level = le; low = lo; high = omega arith }) (is_free-is ps n x a is)))
