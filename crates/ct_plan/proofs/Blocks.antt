-- Blocks, the heights at which two numbers lie alike, and what is known of a piece.
use Rattle.std.proofs.Common.{◌≡◌, ◌≢◌, ℕ, zero, suc, ◌+◌, ◌-◌, ◌*◌, ◌/◌, ◌%◌, ◌^◌, ◌<◌, ◌≤◌, refl, sym, ap, subst, ◌∙◌, inl, inr, arith}
use Rattle.std.specs.Prelude.{All, Contains}
use Rattle.std.proofs.lemmas.Bool.{cases_lt, cases_eq, eq-eqb, ne_eqb, lt-ltb, le-ltb}
use Rattle.std.proofs.lemmas.List.Elements.{All-nil, All-cons}
use Rattle.std.proofs.lemmas.Nat.{pow-add}
use Rattle.std.proofs.Math.Nat.{div-add-mod, add-mod, mul-mod_left, zero-mod, mul_assoc, mod-mod}
use Rattle.ct_base.specs.Pieces.{height_at, pieces_from, pieces, IsBlock}
use Rattle.ct_pieces.proofs.Steps.{width_pos}
use Rattle.ct_pieces.proofs.Least.{IsCut, cut_step, cut_none, height_block, height_greatest}
use Rattle.ct_plan.specs.Few.{alike}

-- a multiple of a power is one of each lower power
pub multiple_of : (g x k h : ℕ) → k ≤ h → (x * g ^ h) % g ^ k ≡ 0
multiple_of g x k h le =
    let wide : g ^ h ≡ g ^ (h - k) * g ^ k = ap (λ n. g ^ n) (omega arith) ∙ pow-add g (h - k) k in
    ap (λ w. (x * w) % g ^ k) wide ∙ ap (λ n. n % g ^ k) (sym (mul_assoc x (g ^ (h - k)) (g ^ k))) ∙ mul-mod_left (x * g ^ (h - k)) (g ^ k)

same_lower : (g k h a b : ℕ) → k ≤ h → a % g ^ h ≡ b % g ^ h → a % g ^ k ≡ b % g ^ k
same_lower g k h a b le same = one a ∙ ap (λ n. n % g ^ k) same ∙ sym (one b)
  where
    split : (c : ℕ) → c ≡ c / g ^ h * g ^ h + c % g ^ h
    split c = omega (arith, div-add-mod c (g ^ h))

    plain : (n : ℕ) → 0 + n ≡ n
    plain n = omega arith

    one : (c : ℕ) → c % g ^ k ≡ c % g ^ h % g ^ k
    one c =
        ap (λ n. n % g ^ k) (split c)
        ∙ add-mod (c / g ^ h * g ^ h) (c % g ^ h) (g ^ k)
        ∙ ap (λ n. (n + c % g ^ h % g ^ k) % g ^ k) (multiple_of g (c / g ^ h) k h le)
        ∙ ap (λ n. n % g ^ k) (plain (c % g ^ h % g ^ k))
        ∙ mod-mod (c % g ^ h) (g ^ k)

pub lower_of : (g k h x : ℕ) → k ≤ h → x % g ^ h ≡ 0 → x % g ^ k ≡ 0
lower_of g k h x le whole = same_lower g k h x 0 le (whole ∙ sym (zero-mod (g ^ h))) ∙ zero-mod (g ^ k)

-- a multiple of a block's width is one of each narrower block's
pub multiple : (x k h : ℕ) → k ≤ h → (x * 512 ^ h) % 512 ^ k ≡ 0
multiple x k h le = multiple_of 512 x k h le

-- two numbers that lie alike at a height lie alike at each lower one
pub alike_lower : (k h a b : ℕ) → k ≤ h → a % 512 ^ h ≡ b % 512 ^ h → a % 512 ^ k ≡ b % 512 ^ k
alike_lower k h a b le same = same_lower 512 k h a b le same

-- what is aligned at a height is aligned at each lower one
pub lower : (k h x : ℕ) → k ≤ h → x % 512 ^ h ≡ 0 → x % 512 ^ k ≡ 0
lower k h x le whole = lower_of 512 k h x le whole

pub alike-le : (top a b : ℕ) → alike top a b ≤ top
unfolding alike
alike-le zero a b = omega arith
alike-le (suc top) a b = elim (cases_eq (a % 512 ^ suc top) (b % 512 ^ suc top)) [
  | inl same ↦ rw (eq-eqb _ _ same) (omega arith)
  | inr not ↦ rw (ne_eqb _ _ not) (omega (arith, alike-le top a b))
]

pub alike-is : (top a b : ℕ) → a % 512 ^ alike top a b ≡ b % 512 ^ alike top a b
unfolding alike
alike-is zero a b = omega arith
alike-is (suc top) a b = elim (cases_eq (a % 512 ^ suc top) (b % 512 ^ suc top)) [
  | inl same ↦ rw (eq-eqb _ _ same) same
  | inr not ↦ rw (ne_eqb _ _ not) (alike-is top a b)
]

pub alike-most : (top k a b : ℕ) → k ≤ top → a % 512 ^ k ≡ b % 512 ^ k → k ≤ alike top a b
unfolding alike
alike-most zero k a b le same = le
alike-most (suc top) k a b le same = elim (cases_eq (a % 512 ^ suc top) (b % 512 ^ suc top)) [
  | inl all ↦ rw (eq-eqb _ _ all) le
  | inr not ↦ rw (ne_eqb _ _ not) (elim (cases_eq k (suc top)) [
    | inl last ↦ absurd (not (subst (λ (n : ℕ). a % 512 ^ n ≡ b % 512 ^ n) last same))
    | inr before ↦ alike-most top k a b (omega (arith, before)) same
  ])
]

-- the steps of the search for the height
pub alike-none : (top a b : ℕ) → top ≡ 0 → alike top a b ≡ 0
unfolding alike
alike-none zero a b none = refl
alike-none (suc top) a b none = absurd (omega arith)

pub alike-here : (top a b : ℕ) → top ≢ 0 → a % 512 ^ top ≡ b % 512 ^ top → alike top a b ≡ top
unfolding alike
alike-here zero a b some same = absurd (some refl)
alike-here (suc top) a b some same = rw (eq-eqb _ _ same) refl

pub alike-lower : (top less a b : ℕ) → less + 1 ≡ top → a % 512 ^ top ≢ b % 512 ^ top → alike less a b ≡ alike top a b
unfolding alike
alike-lower zero less a b some not = absurd (omega arith)
alike-lower (suc top) less a b some not = let e : less ≡ top = omega arith in rw (ne_eqb _ _ not) (ap (λ n. alike n a b) e)

-- what a piece is: a block in which no higher block begins before it and ends after its begin
pub record IsPiece (a b n : ℕ) (piece : ℕ × ℕ) : Type 0 where
  pub block : IsBlock a b n piece
  pub greatest : (o k : ℕ) → IsBlock a b n (o, k) → o ≤ piece.0 → piece.0 < o + 512 ^ k → k ≤ piece.1

pieces_are_from : (s a b n i : ℕ) → IsCut a b n i → All (IsPiece a b n) (pieces_from s a b n i)
unfolding IsCut
pieces_are_from zero a b n i cut = All-nil (IsPiece a b n)
pieces_are_from (suc s) a b n i cut = elim (cases_lt i n) [
  | inr past ↦ rw (le-ltb i n past) (All-nil (IsPiece a b n))
  | inl lt ↦ rw (lt-ltb i n lt) (All-cons (IsPiece a b n) (i, height_at a b n i) (pieces_from s a b n (i + 512 ^ height_at a b n i))
      (record {
        block = height_block a b n i lt;
        greatest = λ o k block from to. elim (cases_lt o i) [
          | inl before ↦ absurd (omega (arith, cut o k block before))
          | inr after ↦
              let e : o ≡ i = omega (arith, from, after) in
              height_greatest a b n i k (subst (λ (x : ℕ). IsBlock a b n (x, k)) e block)
        ];
      })
      (pieces_are_from s a b n (i + 512 ^ height_at a b n i) (cut_step a b n i lt cut)))
]

pub pieces_are : (a b n : ℕ) → All (IsPiece a b n) (pieces a b n)
pieces_are a b n = pieces_are_from n a b n 0 (cut_none a b n)

pieces_cover_from : (s a b n i o : ℕ) → n ≤ i + s → i ≤ o → o < n
    → (piece : ℕ × ℕ) × Contains (pieces_from s a b n i) piece × (piece.0 ≤ o) × (o < piece.0 + 512 ^ piece.1)
pieces_cover_from zero a b n i o enough from to = absurd (omega arith)
pieces_cover_from (suc s) a b n i o enough from to =
    let h = height_at a b n i in
    let pos = width_pos h in
    rw (lt-ltb i n (omega arith)) (elim (cases_lt o (i + 512 ^ h)) [
      | inl here ↦ ((i, h), (0, omega arith, refl), from, here)
      | inr later ↦
          let rest = pieces_cover_from s a b n (i + 512 ^ h) o (omega (arith, pos, enough)) later to in
          let c = rest.1 in
          (rest.0, (suc c.0, omega (arith, c.1), c.2), rest.2, rest.3)
    ])

-- each page of the range lies in a piece
pub pieces_cover : (a b n o : ℕ) → o < n → (piece : ℕ × ℕ) × Contains (pieces a b n) piece × (piece.0 ≤ o) × (o < piece.0 + 512 ^ piece.1)
pieces_cover a b n o lt = pieces_cover_from n a b n 0 o (omega arith) (omega arith) lt
