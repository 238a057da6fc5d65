-- The header words on the path of a range.
use Rattle.std.proofs.Common.{◌≡◌, ◌≢◌, ℕ, zero, suc, ◌+◌, ◌-◌, ◌*◌, ◌/◌, ◌%◌, ◌^◌, ◌<◌, ◌≤◌, Bool, false, List, [], ◌∷◌, ◌++◌, append_assoc, set, refl, sym, ap, ◌∙◌, subst, inl, inr, lit<, arith}
use Rattle.std.specs.Prelude.{◌==◌, nat_lt}
use Rattle.std.specs.Int.{w64, to_le_bytes, from_le_bytes}
use Rattle.std.proofs.lemmas.Bool.{cases_eq, le-ltb, lt-ltb, and_left, ne_eqb}
use Rattle.std.proofs.Math.Nat.{pow-suc, pow-le-pow_right}
use Rattle.ct_base.specs.Ranges.{summary, byte, shown, bytes_below, header, header_at, IsPartition, Headers, Changes}
use Rattle.ct_base.specs.Published.{words_above}
use Rattle.ct_parts.proofs.Bytes.{byte-next, up-up}
use Rattle.ct_parts.proofs.Change.{Differ, header-off, bytes-on, bytes-back, eight-same}
use Rattle.ct_parts.proofs.Descent.{up_partition, shown-byte}

-- Of the header words, those of the first d ranges above (m, p) are those of the new set.
pub record Between (old new : ℕ → ℕ → Bool) (m p : ℕ) (before now : ℕ → ℕ) (d : ℕ) : Type 0 where
  pub below : (n j : ℕ) → n < m + d → n ≤ 9 → j < 64 * 8 ^ (9 - n) → now (header_at (n + 1) j) ≡ header new n j
  pub higher : (n j : ℕ) → m + d ≤ n → n ≤ 9 → j < 64 * 8 ^ (9 - n) → now (header_at (n + 1) j) ≡ header old n j
  pub rest : (a : ℕ) → a / 549755813888 ≡ 1 → a % 8 ≡ 0 → ((n j : ℕ) → n ≤ 9 → j < 64 * 8 ^ (9 - n) → a ≢ header_at (n + 1) j) → now a ≡ 0

-- The loop over the path of (m, p) has written d words, and goes on with byte b of range (m + d, j).
pub record OnWay (m p first : ℕ) (before now : ℕ → ℕ) (d j b : ℕ) : Type 0 where
  pub number : j ≡ p / 8 ^ d
  pub words : (old new : ℕ → ℕ → Bool) → Headers old before → Changes old new m p first → Between old new m p before now d × (m + d ≤ 9 → b ≡ byte new (m + d) j)
  pub others : (a : ℕ) → a % 8 ≡ 0 → ((e : ℕ) → e < d → a ≢ header_at (m + e + 1) (p / 8 ^ suc e)) → now a ≡ before a

-- ---- addresses

at-low : (j : ℕ) → header_at (0 + 1) j ≡ 549755813888 + 8 * j
unfolding header_at
at-low j = refl

at-high : (n j : ℕ) → header_at (suc n + 1) j ≡ 549755813888 + (68719476736 + n * 8589934592 + 8 * j)
unfolding header_at
at-high n j = rw (le-ltb (suc n + 1) 2 (omega arith)) (omega arith)

pow8-le : (i j : ℕ) → i ≤ j → 8 ^ i ≤ 8 ^ j
pow8-le i j le = pow-le-pow_right (lit< tt) le

-- so many ranges of a level there are
pub few : (n j : ℕ) → j < 64 * 8 ^ (9 - n) → j < 8589934592
few n j lt = omega (arith, pow8-le (9 - n) 9 (omega arith))

few-high : (n j : ℕ) → j < 64 * 8 ^ (9 - suc n) → 8 * j < 8589934592
few-high n j lt = omega (arith, pow8-le (9 - suc n) 8 (omega arith))

-- two headers have two addresses
pub header_at-apart : (n j m i : ℕ) → j < 64 * 8 ^ (9 - n) → i < 64 * 8 ^ (9 - m) → header_at (n + 1) j ≡ header_at (m + 1) i → (n ≡ m) × (j ≡ i)
header_at-apart zero j zero i lj li e = (refl, omega (arith, at-low j, at-low i))
header_at-apart zero j (suc m) i lj li e = absurd (omega (arith, at-low j, at-high m i, few 0 j lj))
header_at-apart (suc n) j zero i lj li e = absurd (omega (arith, at-low i, at-high n j, few 0 i li))
header_at-apart (suc n) j (suc m) i lj li e =
    let a = at-high n j in
    let b = at-high m i in
    let fj = few-high n j lj in
    let fi = few-high m i li in
    (ap suc (omega arith), omega arith)

-- an address of a header
pub header_at-bounds : (n j : ℕ) → n ≤ 9 → j < 64 * 8 ^ (9 - n) → (549755813888 ≤ header_at (n + 1) j) × (header_at (n + 1) j < 1099511627776) × (header_at (n + 1) j % 8 ≡ 0)
header_at-bounds zero j le lt = let a = at-low j in let f = few 0 j lt in (omega arith, omega arith, omega arith)
header_at-bounds (suc n) j le lt = let a = at-high n j in let f = few-high n j lt in (omega arith, omega arith, omega arith)

-- ---- one word after the other

pub shown-on : (live : ℕ → ℕ → Bool) (m p d : ℕ) → m + d ≤ 9 → IsPartition m p → shown live (m + d) (p / 8 ^ d) ≡ byte live (m + d) (p / 8 ^ d)
shown-on live m p d le part = let up = up_partition m d p le part in shown-byte live (m + d) (p / 8 ^ d) le up.low

module _ {old new : ℕ → ℕ → Bool} {m p b : ℕ} (c : Changes old new m p b) where
  differ : Differ old new m p
  differ = record { off = c.off }

  pub between_start : (before : ℕ → ℕ) → Headers old before → Between old new m p before before 0
  between_start before h =
      record {
        below = λ n j lt le small. h.words n j le small ∙ sym (header-off differ n j (λ d level. absurd (omega arith)));
        higher = λ n j lt le small. h.words n j le small;
        rest = h.rest;
      }

  pub between_end : (before now : ℕ → ℕ) (d : ℕ) → m + d ≡ 10 → Between old new m p before now d → Headers new now
  between_end before now d at g = record { words = λ n j le small. g.below n j (omega arith) le small; rest = g.rest }

  -- the number of a header on the path
  pub on_path : (d : ℕ) → m + d ≤ 9 → p / 8 ^ d / 8 < 64 * 8 ^ (9 - (m + d))
  on_path d le = let up = up_partition m d p le c.partition in omega (arith, up.high)

  -- the word that is written
  pub word_on : (before now : ℕ → ℕ) (d byte_now : ℕ) → m + d ≤ 9 → Between old new m p before now d → byte_now ≡ byte new (m + d) (p / 8 ^ d)
      → set (to_le_bytes w64 (now (header_at (m + d + 1) (p / 8 ^ d / 8)))) (p / 8 ^ d % 8) byte_now ≡ bytes_below new (m + d) (p / 8 ^ d / 8)
  word_on before now d byte_now le g is =
      let x = p / 8 ^ d in
      ap (λ w. set (to_le_bytes w64 w) (x % 8) byte_now) (g.higher (m + d) (x / 8) (omega arith) le (on_path d le))
      ∙ ap (λ bs. set bs (x % 8) byte_now) (bytes-back old (m + d) (x / 8) le)
      ∙ ap (λ k. set (bytes_below old (m + d) (x / 8)) (x % 8) k) (is ∙ sym (shown-on new m p d le c.partition))
      ∙ sym (bytes-on differ d)

  -- the byte one level up
  pub byte_up : (d : ℕ) → m + d < 9 → summary (m + d) (bytes_below new (m + d) (p / 8 ^ d / 8)) ≡ byte new (m + suc d) (p / 8 ^ suc d)
  byte_up d lt =
      let j = p / 8 ^ d / 8 in
      let level : m + suc d ≡ suc (m + d) = omega arith in
      let not : new (suc (m + d)) j ≡ false = subst (λ (n : ℕ). new n j ≡ false) level (subst (λ (k : ℕ). new (m + suc d) k ≡ false) (sym (up-up p d)) (c.above d (omega arith))) in
      ap (summary (m + d)) (eight-same (λ t. shown new (m + d) (8 * j + t)) (λ t. byte new (m + d) (8 * j + t)) (λ t l. rw (and_left ((m + d) == 9) (nat_lt (8 * j + t) 10) (ne_eqb (m + d) 9 (omega arith))) refl))
      ∙ sym (byte-next new (m + d) j not)
      ∙ ap (byte new (suc (m + d))) (up-up p d)
      ∙ ap (λ n. byte new n (p / 8 ^ suc d)) (sym level)

  pub between_step : (before now after : ℕ → ℕ) (d : ℕ) → m + d ≤ 9 → Between old new m p before now d
      → after (header_at (m + d + 1) (p / 8 ^ d / 8)) ≡ from_le_bytes w64 (bytes_below new (m + d) (p / 8 ^ d / 8))
      → ((a : ℕ) → a % 8 ≡ 0 → a ≢ header_at (m + d + 1) (p / 8 ^ d / 8) → after a ≡ now a) → Between old new m p before after (suc d)
  unfolding header
  between_step before now after d le g written others =
      let x = p / 8 ^ d / 8 in
      let on = on_path d le in
      record {
        below = λ n j lt le' small.
            elim (cases_eq n (m + d)) [
              | inr off ↦ others _ (header_at-bounds n j le' small).2 (λ is. off (header_at-apart n j (m + d) x small on is).0) ∙ g.below n j (omega arith) le' small
              | inl level ↦ elim (cases_eq j x) [
                | inl here ↦
                    ap (λ k. after (header_at (k + 1) j)) level ∙ ap (λ k. after (header_at (m + d + 1) k)) here ∙ written
                    ∙ ap (λ k. header new (m + d) k) (sym here) ∙ ap (λ k. header new k j) (sym level)
                | inr away ↦
                    others _ (header_at-bounds n j le' small).2 (λ is. away (header_at-apart n j (m + d) x small on is).1)
                    ∙ g.higher n j (omega arith) le' small
                    ∙ sym (header-off differ n j (λ e at is.
                    let same : e ≡ d = omega arith in
                    away (sym is ∙ ap (λ k. p / 8 ^ k / 8) same)))
              ]
            ];
        higher = λ n j lt le' small. others _ (header_at-bounds n j le' small).2 (λ is. absurd (omega (arith, (header_at-apart n j (m + d) x small on is).0))) ∙ g.higher n j (omega arith) le' small;
        rest = λ a slot eight off. others a eight (off (m + d) x le on) ∙ g.rest a slot eight off;
      }

-- ---- addresses by the level of the header

pub number_small : (l j : ℕ) → 1 ≤ l → j < 64 * 8 ^ (10 - l) → (j < 8589934592) × (2 ≤ l → 8 * j < 8589934592)
number_small l j low lt =
    (omega (arith, pow8-le (10 - l) 9 (omega arith)), λ two. omega (arith, pow8-le (10 - l) 8 (omega arith)))

pub header_at_one : (l j : ℕ) → l < 2 → header_at l j ≡ 549755813888 + 8 * j
unfolding header_at
header_at_one l j lt = rw (lt-ltb l 2 lt) refl

pub header_at_more : (l j : ℕ) → 2 ≤ l → header_at l j ≡ 549755813888 + (68719476736 + (l - 2) * 8589934592 + 8 * j)
unfolding header_at
header_at_more l j le = rw (le-ltb l 2 le) refl

-- the children of a partition are ranges of their level
pub children_there : (n j : ℕ) → n ≤ 8 → IsPartition (n + 1) j → (8 * j + 8 ≤ 512 * 8 ^ (9 - n)) × (8 * j + 8 ≤ 68719476736)
children_there n j le p =
    let w : 8 ^ (9 - n) ≡ 8 ^ (9 - (n + 1)) * 8 = let e : 9 - n ≡ suc (9 - (n + 1)) = omega arith in ap (λ k. 8 ^ k) e ∙ pow-suc 8 (9 - (n + 1)) in
    let most = pow8-le (9 - n) 9 (omega arith) in
    let high = p.high in
    (omega arith, omega arith)

-- ---- the loop over the path

pub on_way_start : (m p first : ℕ) (before : ℕ → ℕ) → OnWay m p first before before 0 p first
on_way_start m p first before =
    record {
      number = omega arith;
      words = λ old new h c.
          let m0 : m ≡ m + 0 = omega arith in
          (between_start c before h, λ le. c.is ∙ ap (λ n. byte new n p) m0);
      others = λ a eight off. refl;
    }

pub on_way_step : (m p first : ℕ) (before now after : ℕ → ℕ) (d j b b' : ℕ) → OnWay m p first before now d j b → m + d ≤ 9
    → after (header_at (m + d + 1) (j / 8)) ≡ from_le_bytes w64 (set (to_le_bytes w64 (now (header_at (m + d + 1) (j / 8)))) (j % 8) b)
    → b' ≡ summary (m + d) (set (to_le_bytes w64 (now (header_at (m + d + 1) (j / 8)))) (j % 8) b)
    → ((a : ℕ) → a % 8 ≡ 0 → a ≢ header_at (m + d + 1) (j / 8) → after a ≡ now a)
    → OnWay m p first before after (suc d) (j / 8) b'
on_way_step m p first before now after d j b b' g le written up others =
    record {
      number = ap (λ x. x / 8) g.number ∙ up-up p d;
      words = λ old new h c. words old new h c;
      others = λ a eight off.
          let here : header_at (m + d + 1) (p / 8 ^ suc d) ≡ header_at (m + d + 1) (j / 8) = ap (header_at (m + d + 1)) (sym (ap (λ x. x / 8) g.number ∙ up-up p d)) in
          others a eight (λ is. off d (omega arith) (is ∙ sym here)) ∙ g.others a eight (λ e lt. off e (omega arith));
    }
  where
    words : (old new : ℕ → ℕ → Bool) → Headers old before → Changes old new m p first → Between old new m p before after (suc d) × (m + suc d ≤ 9 → b' ≡ byte new (m + suc d) (j / 8))
    words old new h c =
        let x = p / 8 ^ d in
        let g' = g.words old new h c in
        let is : b ≡ byte new (m + d) x = g'.1 le ∙ ap (byte new (m + d)) g.number in
        let list : set (to_le_bytes w64 (now (header_at (m + d + 1) (j / 8)))) (j % 8) b ≡ bytes_below new (m + d) (x / 8) =
        ap (λ k. set (to_le_bytes w64 (now (header_at (m + d + 1) (k / 8)))) (k % 8) b) g.number ∙ word_on c before now d b le g'.0 is in (
          between_step c before now after d le g'.0
              (ap (λ k. after (header_at (m + d + 1) (k / 8))) (sym g.number) ∙ written ∙ ap (from_le_bytes w64) list)
              (λ a eight ne. others a eight (λ is. ne (is ∙ ap (λ k. header_at (m + d + 1) (k / 8)) g.number))),
          λ lt. up ∙ ap (summary (m + d)) list ∙ byte_up c d (omega arith) ∙ ap (byte new (m + suc d)) (sym (ap (λ y. y / 8) g.number ∙ up-up p d)),
        )

-- the same, by the level of the loop
pub on_way_more : (m p first : ℕ) (before now after : ℕ → ℕ) (at j b b' : ℕ) → OnWay m p first before now (at - m) j b → m ≤ at → at ≤ 9
    → after (header_at (at + 1) (j / 8)) ≡ from_le_bytes w64 (set (to_le_bytes w64 (now (header_at (at + 1) (j / 8)))) (j % 8) b)
    → b' ≡ summary at (set (to_le_bytes w64 (now (header_at (at + 1) (j / 8)))) (j % 8) b)
    → ((a : ℕ) → a % 8 ≡ 0 → a ≢ header_at (at + 1) (j / 8) → after a ≡ now a)
    → OnWay m p first before after (at + 1 - m) (j / 8) b'
on_way_more m p first before now after at j b b' g low high written up others =
    let d = at - m in
    let e : at ≡ m + d = omega arith in
    let next : suc d ≡ at + 1 - m = omega arith in
    subst (λ (x : ℕ). OnWay m p first before after x (j / 8) b') next
    (on_way_step m p first before now after d j b b' g (omega arith)
    (subst (λ (n : ℕ). after (header_at (n + 1) (j / 8)) ≡ from_le_bytes w64 (set (to_le_bytes w64 (now (header_at (n + 1) (j / 8)))) (j % 8) b)) e written)
    (subst (λ (n : ℕ). b' ≡ summary n (set (to_le_bytes w64 (now (header_at (n + 1) (j / 8)))) (j % 8) b)) e up)
    (subst (λ (n : ℕ). (a : ℕ) → a % 8 ≡ 0 → a ≢ header_at (n + 1) (j / 8) → after a ≡ now a) e others))

pub on_way_zero : (m p first : ℕ) (before : ℕ → ℕ) → OnWay m p first before before (m - m) p first
on_way_zero m p first before =
    let zero : 0 ≡ m - m = omega arith in
    subst (λ (d : ℕ). OnWay m p first before before d p first) zero (on_way_start m p first before)

pub on_way_end : (m p first : ℕ) (before now : ℕ → ℕ) (at j b : ℕ) → m ≤ 9 → 10 ≤ at → at ≤ 10 → OnWay m p first before now (at - m) j b
    → (old new : ℕ → ℕ → Bool) → Headers old before → Changes old new m p first → Headers new now
on_way_end m p first before now at j b le low high g old new h c = between_end c before now (at - m) (omega arith) (g.words old new h c).0

-- the range of the loop's number
pub on_way_number : (m p first : ℕ) (before now : ℕ → ℕ) (at j b : ℕ) → IsPartition m p → m ≤ at → at ≤ 9 → OnWay m p first before now (at - m) j b → j < 512 * 8 ^ (9 - at)
on_way_number m p first before now at j b part low high g =
    let d = at - m in
    let e : m + d ≡ at = omega arith in
    let up = subst (λ (n : ℕ). IsPartition n (p / 8 ^ d)) e (up_partition m d p (omega arith) part) in
    omega (arith, g.number, up.high)

-- ---- the addresses as a list

pub words_above-more : (n j : ℕ) → n ≤ 9 → words_above n j (10 - n) ≡ header_at (n + 1) (j / 8) ∷ words_above (n + 1) (j / 8) (10 - (n + 1))
unfolding words_above
words_above-more n j le =
    let e : 10 - n ≡ suc (10 - (n + 1)) = omega arith in
    ap (words_above n j) e

pub words_above-none : (n j : ℕ) → 10 ≤ n → words_above n j (10 - n) ≡ []
unfolding words_above
words_above-none n j le = let e : 10 - n ≡ 0 = omega arith in ap (words_above n j) e

pub words_so_far : (n j at c : ℕ) (items : List ℕ) → at ≤ 9 → items ++ words_above at c (10 - at) ≡ words_above n j (10 - n)
    → (items ++ header_at (at + 1) (c / 8) ∷ []) ++ words_above (at + 1) (c / 8) (10 - (at + 1)) ≡ words_above n j (10 - n)
words_so_far n j at c items le e =
    append_assoc items (header_at (at + 1) (c / 8) ∷ []) (words_above (at + 1) (c / 8) (10 - (at + 1)))
    ∙ ap (λ ws. items ++ ws) (sym (words_above-more at c le)) ∙ e

pub partition_up : (n j : ℕ) → n ≤ 8 → IsPartition n j → IsPartition (n + 1) (j / 8)
partition_up n j le p =
    let one : j / 8 ^ 1 ≡ j / 8 = refl in
    up_partition n 1 j (omega arith) p

pub partition_words : (n j : ℕ) → IsPartition n j → j / 8 < 64 * 8 ^ (9 - n)
partition_words n j p = omega (arith, p.high)
