-- One range (m, p) joins the set or leaves it: bytes and header words change on its path alone.
use Rattle.std.proofs.Common.{◌≡◌, ◌≢◌, ℕ, zero, suc, ◌+◌, ◌*◌, ◌/◌, ◌%◌, ◌^◌, ◌<◌, ◌≤◌, Bool, cond, get_or, set, refl, sym, ap, ◌∙◌, inl, inr, arith}
use Rattle.std.specs.Prelude.{◌==◌, nat_lt, ◌&&◌}
use Rattle.std.specs.Int.{w64, from_le_bytes, to_le_bytes}
use Rattle.std.proofs.lemmas.Nat.{le_bytes_8}
use Rattle.std.proofs.lemmas.List.{ext_get_or, get_or_past, get_or-set_same, get_or-set_other, length-set}
use Rattle.std.proofs.lemmas.Bool.{cases_eq, cases_lt, cases_Bool}
use Rattle.ct_base.specs.Ranges.{eight, summary, byte, shown, bytes_below, header}
use Rattle.ct_parts.proofs.Bytes.{get-eight, byte-live, byte-start, byte-next, byte-most, up-up}

pub eight-same : (f g : ℕ → ℕ) → ((t : ℕ) → t < 8 → f t ≡ g t) → eight f ≡ eight g
eight-same f g same =
    let e0 = same 0 (omega arith) in
    let e1 = same 1 (omega arith) in
    let e2 = same 2 (omega arith) in
    let e3 = same 3 (omega arith) in
    let e4 = same 4 (omega arith) in
    let e5 = same 5 (omega arith) in
    let e6 = same 6 (omega arith) in
    let e7 = same 7 (omega arith) in
    cc

pub eight-set : (f g : ℕ → ℕ) (i : ℕ) → i < 8 → ((t : ℕ) → t < 8 → t ≢ i → g t ≡ f t) → eight g ≡ set (eight f) i (g i)
eight-set f g i lt same =
    ext_get_or 0 (eight g) (set (eight f) i (g i)) (sym (length-set (eight f) i (g i))) (λ t l.
    elim (cases_eq t i) [
      | inl here ↦ get-eight g t l ∙ ap g here ∙ sym (ap (λ k. get_or (set (eight f) i (g i)) k 0) here ∙ get_or-set_same (eight f) i (g i) 0 lt)
      | inr off ↦ get-eight g t l ∙ same t l off ∙ sym (get_or-set_other (eight f) i t (g i) 0 off ∙ get-eight f t l)
    ])

-- the list of the eight bytes is what its word gives back
pub bytes-back : (live : ℕ → ℕ → Bool) (n j : ℕ) → n ≤ 9 → to_le_bytes w64 (header live n j) ≡ bytes_below live n j
unfolding header
bytes-back live n j le = le_bytes_8 (bytes_below live n j) _ refl small refl
  where
    shown-small : (c : ℕ) → shown live n c < 256
    shown-small c = elim (cases_Bool ((n == 9) && nat_lt c 10)) [
      | inl is ↦ rw is (omega arith)
      | inr not ↦ rw not (omega (arith, byte-most live n c))
    ]

    small : (i : ℕ) → get_or (bytes_below live n j) i 0 < 256
    small i = elim (cases_lt i 8) [
      | inl lt ↦ omega (arith, get-eight (λ t. shown live n (8 * j + t)) i lt, shown-small (8 * j + i))
      | inr past ↦ omega (arith, get_or_past (bytes_below live n j) i 0 past)
    ]

pub div8 : (j t : ℕ) → t < 8 → (8 * j + t) / 8 ≡ j
div8 j t lt = omega arith

-- The sets differ at range (m, p) at most.
pub record Differ (old new : ℕ → ℕ → Bool) (m p : ℕ) : Type 0 where
  pub off : (n j : ℕ) → (n ≡ m → j ≡ p → ⊥) → new n j ≡ old n j

module _ {old new : ℕ → ℕ → Bool} {m p : ℕ} (c : Differ old new m p) where
  same_at : (n j : ℕ) → ((d : ℕ) → m + d ≡ n → p / 8 ^ d ≢ j) → new n j ≡ old n j
  same_at n j away = c.off n j (λ level number. away 0 (omega (arith, level)) (omega (arith, number)))

  -- off the path of the range a byte stays
  pub byte-off : (n j : ℕ) → ((d : ℕ) → m + d ≡ n → p / 8 ^ d ≢ j) → byte new n j ≡ byte old n j
  byte-off zero j away =
      elim (cases_Bool (old 0 j)) [
        | inl is ↦ byte-live new 0 j (same_at 0 j away ∙ is) ∙ sym (byte-live old 0 j is)
        | inr not ↦ byte-start new j (same_at 0 j away ∙ not) ∙ sym (byte-start old j not)
      ]
  byte-off (suc n) j away =
      let below = eight-same (λ t. byte new n (8 * j + t)) (λ t. byte old n (8 * j + t)) (λ t lt.
      byte-off n (8 * j + t) (λ d level is. away (suc d) (omega (arith, level)) (sym (up-up p d) ∙ ap (λ x. x / 8) is ∙ div8 j t lt))) in
      elim (cases_Bool (old (suc n) j)) [
        | inl is ↦ byte-live new (suc n) j (same_at (suc n) j away ∙ is) ∙ sym (byte-live old (suc n) j is)
        | inr not ↦ byte-next new n j (same_at (suc n) j away ∙ not) ∙ ap (summary n) below ∙ sym (byte-next old n j not)
      ]

  shown-off : (n j : ℕ) → ((d : ℕ) → m + d ≡ n → p / 8 ^ d ≢ j) → shown new n j ≡ shown old n j
  shown-off n j away = ap (λ b. cond ((n == 9) && nat_lt j 10) 48 b) (byte-off n j away)

  -- and so does a header word
  pub header-off : (n j : ℕ) → ((d : ℕ) → m + d ≡ n → p / 8 ^ d / 8 ≢ j) → header new n j ≡ header old n j
  unfolding header
  header-off n j away =
      ap (from_le_bytes w64) (eight-same _ _ (λ t lt. shown-off n (8 * j + t) (λ d level is. away d level (ap (λ x. x / 8) is ∙ div8 j t lt))))

  -- on the path one of the eight bytes changes
  pub bytes-on : (d : ℕ) → bytes_below new (m + d) (p / 8 ^ d / 8) ≡ set (bytes_below old (m + d) (p / 8 ^ d / 8)) (p / 8 ^ d % 8) (shown new (m + d) (p / 8 ^ d))
  bytes-on d =
      let x = p / 8 ^ d in
      let whole : 8 * (x / 8) + x % 8 ≡ x = omega arith in
      eight-set (λ t. shown old (m + d) (8 * (x / 8) + t)) (λ t. shown new (m + d) (8 * (x / 8) + t)) (x % 8) (omega arith)
      (λ t lt ne. shown-off (m + d) (8 * (x / 8) + t) (λ e level is. ne (at t e lt level is)))
      ∙ ap (λ k. set (bytes_below old (m + d) (x / 8)) (x % 8) (shown new (m + d) k)) whole
    where
      at : (t e : ℕ) → t < 8 → m + e ≡ m + d → p / 8 ^ e ≡ 8 * (p / 8 ^ d / 8) + t → t ≡ p / 8 ^ d % 8
      at t e lt level is =
          let same : e ≡ d = omega arith in
          let is' : p / 8 ^ d ≡ 8 * (p / 8 ^ d / 8) + t = ap (λ k. p / 8 ^ k) (sym same) ∙ is in
          omega (arith, is')
