-- Free ranges, by the set and by the bytes.
use Rattle.std.proofs.Common.{◌≡◌, ℕ, ◌+◌, ◌-◌, ◌*◌, ◌/◌, ◌^◌, ◌<◌, Bool, false, sym, ap, ◌∙◌, subst, inl, inr, arith}
use Rattle.std.proofs.lemmas.Nat.{mul-le, le-div, div_below, div-add-mod', mod_below}
use Rattle.std.proofs.lemmas.Bool.{cases_lt, both_ways, false_from_ne_true}
use Rattle.std.proofs.lemmas.Nat.{pow-add}
use Rattle.std.proofs.Math.Nat.{one-le-pow, mul_assoc, mul_comm}
use Rattle.ct_base.specs.Ranges.{Meet, Clear, IsFree, IsLiveSet}

pow8_pos : (d : ℕ) → 0 < 8 ^ d
pow8_pos d = one-le-pow d 8 (omega arith)

cancel : (a b c : ℕ) → a * c < b * c → a < b
cancel a b c lt = elim (cases_lt a b) [ inl l ↦ l | inr le ↦ absurd (omega (arith, mul-le b c a c le (omega arith))) ]

-- and the other way
scaled : (a b c : ℕ) → 0 < c → a < b → a * c < b * c
scaled a b c pos lt = omega (arith, mul-le (a + 1) c b c (omega arith) (omega arith))

-- a product with the length of a higher range
wide : (x k d : ℕ) → x * 8 ^ (k + d) ≡ x * 8 ^ d * 8 ^ k
wide x k d = ap (λ y. x * y) (pow-add 8 k d ∙ mul_comm (8 ^ k) (8 ^ d)) ∙ sym (mul_assoc x (8 ^ d) (8 ^ k))

-- two aligned ranges meet where the lower lies in the higher
pub meet-in : (k d i j : ℕ) → Meet k i (k + d) j → i / 8 ^ d ≡ j
meet-in k d i j m =
    let lo = cancel i ((j + 1) * 8 ^ d) (8 ^ k) (omega (arith, m.0, wide (j + 1) k d)) in
    let hi = cancel (j * 8 ^ d) (i + 1) (8 ^ k) (omega (arith, m.1, wide j k d)) in
    let below = div_below i (8 ^ d) (j + 1) (pow8_pos d) lo in
    let above = le-div j i (8 ^ d) (pow8_pos d) (omega (arith, hi)) in
    omega arith

pub in-meet : (k d i : ℕ) → Meet k i (k + d) (i / 8 ^ d)
in-meet k d i =
    let j = i / 8 ^ d in
    let whole = div-add-mod' i (8 ^ d) in
    let small = mod_below i (8 ^ d) (pow8_pos d) in
    let pos = pow8_pos k in
    let up : (j + 1) * 8 ^ d ≡ j * 8 ^ d + 8 ^ d = omega arith in
    let lo = scaled i ((j + 1) * 8 ^ d) (8 ^ k) pos (omega (arith, up, whole, small)) in
    let hi = scaled (j * 8 ^ d) (i + 1) (8 ^ k) pos (omega (arith, whole)) in
    (omega (arith, lo, wide (j + 1) k d), omega (arith, hi, wide j k d))

-- ---- free and clear

-- what is free is clear
pub free-clear : (live : ℕ → ℕ → Bool) (l x : ℕ) → IsFree live l x → Clear live 9 l x
free-clear live l x free =
    record {
      down = λ d k i at in_. false_from_ne_true (live k i) (λ is.
          free k i is (subst (λ (n : ℕ). Meet k i n x) at (subst (λ (j : ℕ). Meet k i (k + d) j) in_ (in-meet k d i))));
      up = λ d le. false_from_ne_true (live (l + d) (x / 8 ^ d)) (λ is.
          let m = in-meet l d x in free (l + d) (x / 8 ^ d) is (m.1, m.0));
    }

-- and what is clear is free
pub clear-free : (live : ℕ → ℕ → Bool) (l x : ℕ) → IsLiveSet live → Clear live 9 l x → IsFree live l x
clear-free live l x set clear k i is m =
    elim (cases_lt l k) [
      | inl lt ↦
          let high = (set.partition k i is).level in
          let d = k - l in
          let at : l + d ≡ k = omega arith in
          let in_ : x / 8 ^ d ≡ i = meet-in l d x i (subst (λ (n : ℕ). Meet l x n i) (sym at) (m.1, m.0)) in
          both_ways (live k i) (subst (λ (n : ℕ). live n i ≡ false) at (subst (λ (y : ℕ). live (l + d) y ≡ false) in_ (clear.up d (omega (arith, at, high))))) is
      | inr le ↦
          let d = l - k in
          let at : k + d ≡ l = omega arith in
          let in_ : i / 8 ^ d ≡ x = meet-in k d i x (subst (λ (n : ℕ). Meet k i n x) (sym at) m) in
          both_ways (live k i) (clear.down d k i at in_) is
    ]
