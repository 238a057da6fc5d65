-- Bits of pages in a list of words.
use Rattle.std.proofs.Common.{◌≡◌, ◌≢◌, ℕ, ◌+◌, ◌*◌, ◌/◌, ◌%◌, ◌^◌, ◌<◌, true, false, List, length, get_or, set, sym, ap, ◌∙◌, inl, inr, arith}
use Rattle.std.specs.Prelude.{◌==◌, bit_and, bit_or}
use Rattle.std.specs.Int.{bit_at, bit_not, w64, trailing_zeros}
use Rattle.std.proofs.lemmas.Bool.{cases_eq, cases_lt}
use Rattle.std.proofs.lemmas.List.{get_or-set_same, get_or-set_other, get_or_read}
use Rattle.std.proofs.lemmas.Nat.Bits.{bit_at_set_same, bit_at_set_other, bit_at_clear_same, bit_at_clear_other, bit_at-trailing_zeros, bit_at-zero}
use Rattle.ct_frames.specs.Free.{is_set, ZeroBelow}

is_set-here : (words : List ℕ) (page v b : ℕ) → page / 64 < length words → bit_at v (page % 64) ≡ b → is_set (set words (page / 64) v) page ≡ (b == 1)
unfolding is_set
is_set-here words page v b in_range e =
    ap (λ k. bit_at k (page % 64) == 1) (get_or-set_same words (page / 64) v 0 in_range) ∙ ap (λ k. k == 1) e

is_set-there : (words : List ℕ) (page v q : ℕ) → page / 64 < length words → q ≢ page
    → ((i : ℕ) → i < 64 → i ≢ page % 64 → bit_at v i ≡ bit_at (get_or words (page / 64) 0) i) → is_set (set words (page / 64) v) q ≡ is_set words q
unfolding is_set
is_set-there words page v q in_range other same =
    elim (cases_eq (q / 64) (page / 64)) [
      | inl here ↦
          ap (λ k. bit_at (get_or (set words (page / 64) v) k 0) (q % 64) == 1) here
          ∙ ap (λ k. bit_at k (q % 64) == 1) (get_or-set_same words (page / 64) v 0 in_range)
          ∙ ap (λ k. k == 1) (same (q % 64) (omega arith) (λ e. other (omega (arith, e, here))))
          ∙ ap (λ k. bit_at (get_or words k 0) (q % 64) == 1) (sym here)
      | inr away ↦ ap (λ k. bit_at k (q % 64) == 1) (get_or-set_other words (page / 64) (q / 64) v 0 away)
    ]

-- n is the word of the page, as the code reads it
module _ (words : List ℕ) (page n : ℕ) (in_range : page / 64 < length words) (reads : n ≡ get_or words (page / 64) n) where
  read : n ≡ get_or words (page / 64) 0
  read = get_or_read words (page / 64) n in_range reads 0

  pub with_bit-same : is_set (set words (page / 64) (bit_or n (1 * 2 ^ (page % 64) % 2 ^ 64))) page ≡ true
  with_bit-same = is_set-here words page _ 1 in_range (bit_at_set_same w64 _ (page % 64) (omega arith))

  pub with_bit-other : (q : ℕ) → q ≢ page → is_set (set words (page / 64) (bit_or n (1 * 2 ^ (page % 64) % 2 ^ 64))) q ≡ is_set words q
  with_bit-other q other =
      is_set-there words page _ q in_range other (λ i lt ne. bit_at_set_other w64 _ (page % 64) (omega arith) i ne ∙ ap (λ k. bit_at k i) read)

  pub without_bit-same : is_set (set words (page / 64) (bit_and n (bit_not w64 (1 * 2 ^ (page % 64) % 2 ^ 64)))) page ≡ false
  without_bit-same = is_set-here words page _ 0 in_range (bit_at_clear_same w64 _ (page % 64) (omega arith))

  pub without_bit-other : (q : ℕ) → q ≢ page → is_set (set words (page / 64) (bit_and n (bit_not w64 (1 * 2 ^ (page % 64) % 2 ^ 64)))) q ≡ is_set words q
  without_bit-other q other =
      is_set-there words page _ q in_range other (λ i lt ne. bit_at_clear_other w64 _ (page % 64) (omega arith) i lt ne ∙ ap (λ k. bit_at k i) read)

-- a page of a word that is 0 is not set
pub is_set-zero : (words : List ℕ) (q : ℕ) → get_or words (q / 64) 0 ≡ 0 → is_set words q ≡ false
unfolding is_set
is_set-zero words q none = ap (λ k. bit_at k (q % 64) == 1) none ∙ ap (λ k. k == 1) (bit_at-zero (q % 64))

-- the lowest bit of the first word that is not 0
pub lowest-set : (words : List ℕ) (i tz page : ℕ) → 0 < get_or words i 0 → get_or words i 0 < 2 ^ 64 → tz ≡ trailing_zeros w64 (get_or words i 0) → page ≡ i * 64 + tz
    → (page / 64 ≡ i) × (is_set words page ≡ true) × (ZeroBelow words i → (q : ℕ) → q < page → is_set words q ≡ false)
unfolding is_set
lowest-set words i tz page some fits tz_is is =
    let n = get_or words i 0 in
    let low = bit_at-trailing_zeros w64 n some fits in
    let tz_low : tz < 64 = omega (arith, tz_is, low.0) in
    let word : page / 64 ≡ i = omega (arith, is, tz_low) in
    let bit : page % 64 ≡ tz = omega (arith, is, tz_low) in (
      word,
      ap (λ k. bit_at (get_or words k 0) (page % 64) == 1) word ∙ ap (λ k. bit_at n k == 1) (bit ∙ tz_is) ∙ ap (λ k. k == 1) low.1,
      λ zeros q lt. elim (cases_lt (q / 64) i) [
        | inl before ↦ is_set-zero words q (zeros (q / 64) before)
        | inr from ↦
            let same : q / 64 ≡ i = omega (arith, is, tz_low, lt, from) in
            let below : q % 64 < tz = omega (arith, is, lt, same) in
            ap (λ k. bit_at (get_or words k 0) (q % 64) == 1) same ∙ ap (λ k. k == 1) (low.2 (q % 64) (omega (arith, below, tz_is)))
      ],
    )
