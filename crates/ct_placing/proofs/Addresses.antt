-- The addresses of the header words.
use Rattle.std.proofs.Common.{◌≡◌, ℕ, zero, suc, ◌+◌, ◌-◌, ◌*◌, ◌/◌, ◌%◌, ◌^◌, ◌<◌, ◌≤◌, ◌⊎◌, List, ap, ◌∙◌, inl, inr, lit<, arith}
use Rattle.std.proofs.Math.Nat.{pow-le-pow_right, pow-suc}
use Rattle.std.proofs.lemmas.Bool.{cases_lt, lt-ltb, or_left}
use Rattle.ct_parts.proofs.Path.{few, header_at_more, header_at_one}
use Rattle.ct_words.proofs.Shown.{little-shown}
use Rattle.ct_words.specs.Shown.{shown_word}
use Rattle.ct_placing.specs.Heading.{IsRangeAt, word_of}

pub shown_here : (img : List ℕ) (a : ℕ) → a % 8 ≡ 0 → a < 1099511627776 → word_of img a ≡ shown_word img a
shown_here img a even high = little-shown img a even (or_left _ _ (lt-ltb a 1099511627776 high))

-- how many ranges there are
pub wide_up : (n j : ℕ) → n ≤ 9 → j < 512 * 8 ^ (9 - n) → j < 64 * 8 ^ (10 - n)
wide_up n j le lt = let e : 10 - n ≡ suc (9 - n) = omega arith in omega (arith, lt, ap (λ k. 8 ^ k) e ∙ pow-suc 8 (9 - n))

pub wide_down : (n j : ℕ) → n ≤ 8 → j < 64 * 8 ^ (9 - n) → j < 512 * 8 ^ (9 - (n + 1))
wide_down n j le lt = let e : 9 - n ≡ suc (9 - (n + 1)) = omega arith in omega (arith, lt, ap (λ k. 8 ^ k) e ∙ pow-suc 8 (9 - (n + 1)))

pub pow_small : (n : ℕ) → 8 ^ (9 - n) ≤ 134217728
pow_small n = pow-le-pow_right {n = 8} (lit< tt) {i = 9 - n} {j = 9} (omega arith)

-- the range of a word of the level-0 headers, and of one behind
pub range_low : (a : ℕ) → a % 8 ≡ 0 → 549755813888 ≤ a → a - 549755813888 < 68719476736 → IsRangeAt a 0 ((a - 549755813888) / 8)
range_low a even from lt = record {
  level = omega arith;
  number = omega arith;
  is = let at = header_at_one 1 ((a - 549755813888) / 8) (omega arith) in omega (arith, at);
}

pub range_high : (a n j : ℕ) → a % 8 ≡ 0 → 618475290624 ≤ a → n ≡ 1 + (a - 618475290624) / 8589934592 → j ≡ (a - 618475290624) % 8589934592 / 8 → n ≤ 9 → j < 64 * 8 ^ (9 - n)
    → IsRangeAt a n j
range_high a n j even from level number le lt = record { level = le; number = lt; is = let at = header_at_more (n + 1) j (omega (arith, level)) in omega (arith, at, level, number) }

pub high_range : (a n j : ℕ) → 618475290624 ≤ a → IsRangeAt a n j → (n ≡ 1 + (a - 618475290624) / 8589934592) × (j ≡ (a - 618475290624) % 8589934592 / 8)
high_range a zero j ge r = let at = header_at_one 1 j (omega arith) in absurd (omega (arith, at, r.is, few 0 j r.number))
high_range a (suc n) j ge r =
    let at = header_at_more (suc n + 1) j (omega arith) in
    let most = pow-le-pow_right {n = 8} (lit< tt) {i = 9 - suc n} {j = 8} (omega arith) in
    let small : 8 * j < 8589934592 = omega (arith, most, r.number) in
    let is : a ≡ 618475290624 + n * 8589934592 + 8 * j = omega (arith, at, r.is) in
    (omega (arith, is, small), omega (arith, is, small))

-- a header word stands at the address, or none
pub range_cases : (a : ℕ) → a % 8 ≡ 0 → 549755813888 ≤ a → ((n : ℕ) × (j : ℕ) × IsRangeAt a n j) ⊎ ((n j : ℕ) → IsRangeAt a n j → ⊥)
range_cases a even from =
    let level = 1 + (a - 618475290624) / 8589934592 in
    let number = (a - 618475290624) % 8589934592 / 8 in
    elim (cases_lt a 618475290624) [
      | inl low ↦ inl (0, (a - 549755813888) / 8, range_low a even from (omega arith))
      | inr high ↦ elim (cases_lt 9 level) [
        | inl deep ↦ inr (λ n j r. let is = high_range a n j high r in omega (arith, is.0, deep, r.level))
        | inr le ↦ elim (cases_lt number (64 * 8 ^ (9 - level))) [
          | inl lt ↦ inl (level, number, range_high a level number even high (omega arith) (omega arith) le lt)
          | inr past ↦ inr (λ n j r.
              let is = high_range a n j high r in
              let width = ap (λ k. 8 ^ (9 - k)) is.0 in
              omega (arith, is.1, width, past, r.number))
        ]
      ]
    ]
