-- No cover has fewer blocks than there are pieces.
use Rattle.std.proofs.Common.{◌≡◌, ℕ, zero, suc, ◌+◌, ◌*◌, ◌/◌, ◌%◌, ◌^◌, ◌<◌, ◌≤◌, true, false, cond, List, [], ◌∷◌, length, get_or, ap, ◌∙◌, subst, inl, inr, arith}
use Rattle.std.specs.Prelude.{nat_le, All}
use Rattle.std.proofs.lemmas.Bool.{le-leb, lt-leb, eq-eqb, and_from, lt-ltb, le-ltb, cases_Bool, cases_lt, both_ways}
use Rattle.std.proofs.lemmas.List.Elements.{All-contains}
use Rattle.std.proofs.Math.Nat.{div-add-mod, mul-le-mul_left, add-mod_right}
use Rattle.ct_base.specs.Pieces.{fits, height_at, pieces_from, pieces, IsBlock, Covers}
use Rattle.ct_pieces.proofs.Steps.{fits_says, height_cases, width_pos}

-- a multiple of w that is below another is at least w below it
pub next_multiple : (w x y : ℕ) → 0 < w → x % w ≡ 0 → y % w ≡ 0 → x < y → x + w ≤ y
next_multiple w x y pos p q lt =
    let ex = div-add-mod x w in
    let ey = div-add-mod y w in
    elim (cases_lt (x / w) (y / w)) [
      | inl less ↦ let m : w * (x / w + 1) ≤ w * (y / w) = mul-le-mul_left w (omega arith) in omega (arith, ex, ey, m)
      | inr more ↦ absurd (omega (arith, ex, ey, mul-le-mul_left w more))
    ]

-- what is aligned at a height is aligned at each lower one
lower : (h k x : ℕ) → h ≤ k → k ≤ 3 → x % 512 ^ k ≡ 0 → x % 512 ^ h ≡ 0
lower zero k x p q e = omega arith
lower (suc zero) (suc zero) x p q e = e
lower (suc zero) (suc (suc zero)) x p q e = omega arith
lower (suc zero) (suc (suc (suc zero))) x p q e = omega arith
lower (suc (suc zero)) (suc (suc zero)) x p q e = e
lower (suc (suc zero)) (suc (suc (suc zero))) x p q e = omega arith
lower (suc (suc (suc zero))) (suc (suc (suc zero))) x p q e = e
lower (suc h) zero x p q e = absurd (omega arith)
lower (suc (suc h)) (suc zero) x p q e = absurd (omega arith)
lower (suc (suc (suc h))) (suc (suc zero)) x p q e = absurd (omega arith)
lower (suc (suc (suc (suc h)))) (suc (suc (suc zero))) x p q e = absurd (omega arith)
lower (suc h) (suc (suc (suc (suc k)))) x p q e = absurd (omega arith)

pub block_fits : (a b n i k : ℕ) → IsBlock a b n (i, k) → fits a b n i (512 ^ k) ≡ true
block_fits a b n i k block =
    and_from _ _ (and_from _ _ (eq-eqb _ _ block.first) (eq-eqb _ _ block.second)) (le-leb _ _ block.inside)

fits_block : (a b n i k : ℕ) → k ≤ 3 → fits a b n i (512 ^ k) ≡ true → IsBlock a b n (i, k)
fits_block a b n i k low t =
    let said = fits_says a b n i (512 ^ k) t in
    record { height = low; first = said.0; second = said.1; inside = said.2 }

-- the piece at an offset is a block
pub height_block : (a b n i : ℕ) → i < n → IsBlock a b n (i, height_at a b n i)
height_block a b n i lt =
    height_cases a b n i (λ h. IsBlock a b n (i, h))
    (λ t. fits_block a b n i 3 (omega arith) t)
    (λ _ t. fits_block a b n i 2 (omega arith) t)
    (λ _ _ t. fits_block a b n i 1 (omega arith) t)
    (λ _ _ _. record { height = omega arith; first = omega arith; second = omega arith; inside = omega arith })

not_at : (a b n i k j : ℕ) → IsBlock a b n (i, k) → fits a b n i (512 ^ j) ≡ false → k ≡ j → ⊥
not_at a b n i k j block f e =
    both_ways _ f (subst (λ (x : ℕ). fits a b n i (512 ^ x) ≡ true) e (block_fits a b n i k block))

-- and no block there is higher
pub height_greatest : (a b n i k : ℕ) → IsBlock a b n (i, k) → k ≤ height_at a b n i
height_greatest a b n i k block =
    let low = block.height in
    height_cases a b n i (λ h. k ≤ h)
    (λ t. low)
    (λ f3 t. omega (arith, not_at a b n i k 3 block f3))
    (λ f3 f2 t. omega (arith, not_at a b n i k 3 block f3, not_at a b n i k 2 block f2))
    (λ f3 f2 f1. omega (arith, not_at a b n i k 3 block f3, not_at a b n i k 2 block f2, not_at a b n i k 1 block f1))

-- no block lies on both sides of offset i
unfoldable pub IsCut : ℕ → ℕ → ℕ → ℕ → Type 0
IsCut a b n i = (o k : ℕ) → IsBlock a b n (o, k) → o < i → o + 512 ^ k ≤ i

-- the end of a piece is such an offset, where its begin is one
pub cut_step : (a b n i : ℕ) → i < n → IsCut a b n i → IsCut a b n (i + 512 ^ height_at a b n i)
unfolding IsCut
cut_step a b n i lt cut o k block before =
    let h = height_at a b n i in
    let here = height_block a b n i lt in
    elim (cases_lt o i) [
      | inl less ↦ omega (arith, cut o k block less)
      | inr more ↦ elim (cases_lt h k) [
        | inr low ↦
            let end : (a + i + 512 ^ h) % 512 ^ h ≡ 0 = add-mod_right (a + i) (512 ^ h) ∙ here.first in
            let end_k = lower k h (a + i + 512 ^ h) low here.height end in
            omega (arith, next_multiple (512 ^ k) (a + o) (a + i + 512 ^ h) (width_pos k) block.first end_k (omega arith))
        | inl high ↦
            let first_h = lower h k (a + o) (omega arith) block.height block.first in
            elim (cases_lt i o) [
              | inl apart ↦ absurd (omega (arith, next_multiple (512 ^ h) (a + i) (a + o) (width_pos h) here.first first_h (omega arith)))
              | inr same ↦
                  let e : o ≡ i = omega arith in
                  let block_i = subst (λ (x : ℕ). IsBlock a b n (x, k)) e block in
                  absurd (omega (arith, height_greatest a b n i k block_i, high))
            ]
      ]
    ]

-- how many of the blocks begin at offset i or after it
pub after : ℕ → List (ℕ × ℕ) → ℕ
after i [] = 0
after i (block ∷ blocks) = cond (nat_le i block.0) 1 0 + after i blocks

after-le-length : (i : ℕ) (blocks : List (ℕ × ℕ)) → after i blocks ≤ length blocks
unfolding after
after-le-length i [] = omega arith
after-le-length i (block ∷ blocks) =
    elim (cases_Bool (nat_le i block.0)) [
      | inl t ↦ rw t (omega (arith, after-le-length i blocks))
      | inr f ↦ rw f (omega (arith, after-le-length i blocks))
    ]

after-falls : (i j : ℕ) (blocks : List (ℕ × ℕ)) → i < j → after j blocks ≤ after i blocks
unfolding after
after-falls i j [] lt = omega arith
after-falls i j (block ∷ blocks) lt =
    elim (cases_lt block.0 j) [
      | inl low ↦ rw (lt-leb _ _ low) (omega (arith, after-falls i j blocks lt))
      | inr high ↦ rw (le-leb _ _ high, le-leb i block.0 (omega arith)) (omega (arith, after-falls i j blocks lt))
    ]

-- one that begins at i counts at i and no more at j
after-step : (i j k : ℕ) (blocks : List (ℕ × ℕ)) (d : ℕ × ℕ) → i < j → k < length blocks → (get_or blocks k d).0 ≡ i → after j blocks + 1 ≤ after i blocks
unfolding after
after-step i j k [] d lt within at = absurd (omega arith)
after-step i j zero (block ∷ blocks) d lt within at =
    rw (le-leb i block.0 (omega (arith, at)), lt-leb j block.0 (omega (arith, at))) (omega (arith, after-falls i j blocks lt))
after-step i j (suc k) (block ∷ blocks) d lt within at =
    let rest = after-step i j k blocks d lt (omega arith) at in
    elim (cases_lt block.0 j) [
      | inl low ↦ rw (lt-leb _ _ low) (omega (arith, rest))
      | inr high ↦ rw (le-leb _ _ high, le-leb i block.0 (omega arith)) (omega (arith, rest))
    ]

least_from : (s a b n i : ℕ) (blocks : List (ℕ × ℕ)) → IsCut a b n i → All (IsBlock a b n) blocks → Covers blocks n
    → length (pieces_from s a b n i) ≤ after i blocks
unfolding IsCut
least_from zero a b n i blocks cut all covers = omega arith
least_from (suc s) a b n i blocks cut all covers =
    elim (cases_lt i n) [
      | inr past ↦ rw (le-ltb i n past) (omega arith)
      | inl lt ↦
          let h = height_at a b n i in
          let c = covers i lt in
          let block = c.0 in
          let is = All-contains (IsBlock a b n) blocks block all c.1 in
          let first : block.0 ≡ i = elim (cases_lt block.0 i) [
            | inl before ↦ absurd (omega (arith, cut block.0 block.1 is before, c.3))
            | inr from ↦ omega (arith, c.2)
          ] in
          let rest = least_from s a b n (i + 512 ^ h) blocks (cut_step a b n i lt cut) all covers in
          let here = after-step i (i + 512 ^ h) c.1.0 blocks block (omega (arith, width_pos h)) c.1.1 (ap (λ (x : ℕ × ℕ). x.0) c.1.2 ∙ first) in
          rw (lt-ltb i n lt) (omega (arith, rest, here))
    ]

pub cut_none : (a b n : ℕ) → IsCut a b n 0
unfolding IsCut
cut_none a b n o k block lt = absurd (omega arith)

-- no cover has fewer blocks than there are pieces
pub least : (a b n : ℕ) (blocks : List (ℕ × ℕ)) → All (IsBlock a b n) blocks → Covers blocks n → length (pieces a b n) ≤ length blocks
least a b n blocks all covers =
    omega (arith, least_from n a b n 0 blocks (cut_none a b n) all covers, after-le-length 0 blocks)
