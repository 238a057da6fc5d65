-- What one step of the pieces does.
use Rattle.std.proofs.Common.{◌≡◌, ℕ, zero, suc, ◌+◌, ◌-◌, ◌%◌, ◌^◌, ◌<◌, ◌≤◌, true, false, cond, [], ◌∷◌, length, refl, sym, ap, ◌∙◌, inl, inr, arith}
use Rattle.std.specs.Prelude.{nat_lt}
use Rattle.std.proofs.lemmas.Bool.{leb-true, eqb-true, lt-ltb, le-ltb, and_parts, cases_Bool, cond-true, cond-false}
use Rattle.std.proofs.Math.Nat.{one-le-pow}
use Rattle.ct_base.specs.Pieces.{fits, height_at, pieces_from}

pub width_pos : (k : ℕ) → 0 < 512 ^ k
width_pos k = one-le-pow k 512 (omega arith)

pub width_le : (k : ℕ) → k ≤ 3 → 512 ^ k ≤ 134217728
width_le zero h = omega arith
width_le (suc zero) h = omega arith
width_le (suc (suc zero)) h = omega arith
width_le (suc (suc (suc zero))) h = omega arith
width_le (suc (suc (suc (suc k)))) h = omega arith

-- what a test of a fit says
pub fits_says : (a b n i w : ℕ) → fits a b n i w ≡ true → ((a + i) % w ≡ 0) × ((b + i) % w ≡ 0) × (i + w ≤ n)
fits_says a b n i w h =
    let p = and_parts _ _ h in
    let q = and_parts _ _ p.0 in
    (eqb-true _ _ q.0, eqb-true _ _ q.1, leb-true _ _ p.1)

-- the four cases of the height
pub height_cases : (a b n i : ℕ) → (P : ℕ → Type 0)
    → (fits a b n i (512 ^ 3) ≡ true → P 3)
    → (fits a b n i (512 ^ 3) ≡ false → fits a b n i (512 ^ 2) ≡ true → P 2)
    → (fits a b n i (512 ^ 3) ≡ false → fits a b n i (512 ^ 2) ≡ false → fits a b n i (512 ^ 1) ≡ true → P 1)
    → (fits a b n i (512 ^ 3) ≡ false → fits a b n i (512 ^ 2) ≡ false → fits a b n i (512 ^ 1) ≡ false → P 0)
    → P (height_at a b n i)
unfolding height_at
height_cases a b n i P p3 p2 p1 p0 =
    elim (cases_Bool (fits a b n i (512 ^ 3))) [
      | inl t3 ↦ rw t3 (p3 t3)
      | inr f3 ↦ elim (cases_Bool (fits a b n i (512 ^ 2))) [
        | inl t2 ↦ rw (f3, t2) (p2 f3 t2)
        | inr f2 ↦ elim (cases_Bool (fits a b n i (512 ^ 1))) [
          | inl t1 ↦ rw (f3, f2, t1) (p1 f3 f2 t1)
          | inr f1 ↦ rw (f3, f2, f1) (p0 f3 f2 f1)
        ]
      ]
    ]

pub height_le : (a b n i : ℕ) → height_at a b n i ≤ 3
height_le a b n i = height_cases a b n i (λ h. h ≤ 3) (λ _. omega arith) (λ _ _. omega arith) (λ _ _ _. omega arith) (λ _ _ _. omega arith)

pub height_inside : (a b n i : ℕ) → i < n → i + 512 ^ height_at a b n i ≤ n
height_inside a b n i lt =
    height_cases a b n i (λ h. i + 512 ^ h ≤ n)
    (λ t. (fits_says a b n i (512 ^ 3) t).2) (λ _ t. (fits_says a b n i (512 ^ 2) t).2) (λ _ _ t. (fits_says a b n i (512 ^ 1) t).2) (λ _ _ _. omega arith)

-- past the end there are none
pub pieces_from-past : (s a b n i : ℕ) → n ≤ i → pieces_from s a b n i ≡ []
pieces_from-past zero a b n i h = refl
pieces_from-past (suc s) a b n i h = cond-false _ _ _ (le-ltb i n h)

-- it takes no more steps than there are pages left
pub pieces_from-enough : (s t a b n i : ℕ) → n ≤ i + s → n ≤ i + t → pieces_from s a b n i ≡ pieces_from t a b n i
pieces_from-enough zero t a b n i p q = sym (pieces_from-past t a b n i (omega arith))
pieces_from-enough (suc s) zero a b n i p q = pieces_from-past (suc s) a b n i (omega arith)
pieces_from-enough (suc s) (suc t) a b n i p q =
    let w = width_pos (height_at a b n i) in
    ap (λ rest. cond (nat_lt i n) ((i, height_at a b n i) ∷ rest) [])
    (pieces_from-enough s t a b n (i + 512 ^ height_at a b n i) (omega (arith, w)) (omega (arith, w)))

-- the first of the pieces that are left, and the others
pub pieces_from-step : (a b n i h j : ℕ) → i < n → h ≡ height_at a b n i → i + 512 ^ h ≡ j
    → pieces_from (n - i) a b n i ≡ (i, h) ∷ pieces_from (n - j) a b n j
pieces_from-step a b n i h j lt is e =
    let w = width_pos h in
    let more : n - i ≡ suc (n - i - 1) = omega arith in
    ap (λ k. pieces_from k a b n i) more
    ∙ cond-true _ _ _ (lt-ltb i n lt)
    ∙ ap (λ k. (i, k) ∷ pieces_from (n - i - 1) a b n (i + 512 ^ k)) (sym is)
    ∙ ap (λ k. (i, h) ∷ pieces_from (n - i - 1) a b n k) e
    ∙ ap (λ rest. (i, h) ∷ rest) (pieces_from-enough (n - i - 1) (n - j) a b n j (omega (arith, w, e)) (omega arith))

pub length-pieces_from : (s a b n i : ℕ) → length (pieces_from s a b n i) ≤ s
length-pieces_from zero a b n i = omega arith
length-pieces_from (suc s) a b n i =
    elim (cases_Bool (nat_lt i n)) [
      | inl t ↦ rw t (omega (arith, length-pieces_from s a b n (i + 512 ^ height_at a b n i)))
      | inr f ↦ rw f (omega arith)
    ]
