-- How many numbers a rising list holds, and the cells of wants of a page each.
use Rattle.std.proofs.Common.{◌≡◌, ℕ, zero, suc, ◌+◌, ◌-◌, ◌*◌, ◌/◌, ◌^◌, ◌<◌, ◌≤◌, Bool, true, false, List, [], ◌∷◌, map, length, refl, ap, ◌∙◌, inl, inr, arith}
use Rattle.std.specs.Prelude.{◌==◌, ◌&&◌, ◌||◌, nat_lt, nat_le, min}
use Rattle.std.proofs.Math.Nat.{div-add-mod, mod-lt, mul-le-mul_left}
use Rattle.std.proofs.lemmas.Bool.{cases_lt, eq-eqb, eqb-true, ne_eqb, and_parts, leb-true, ltb-true, le-leb, lt-leb, lt-ltb, le-ltb}
use Rattle.ct_base.specs.Plan.{page_want}
use Rattle.ct_base.specs.Walk.{page_at}
use Rattle.ct_base.specs.Wants.{Want, count_below, is_on_path, is_wanted, missing_at}
use Rattle.ct_image.proofs.MissingLess.{count_below-same, count_below-less, count_below-none}
use Rattle.ct_pieces.proofs.Steps.{width_pos}
use Rattle.ct_plan.proofs.Short.{same_truth, tests_hold, tests_say}
use Rattle.ct_state.proofs.Counted.{has}

-- the numbers rise, from lo on and below n
abbrev pub rises : ℕ → ℕ → List ℕ → Bool
rises lo n [] = true
rises lo n (x ∷ xs) = (nat_le lo x && nat_lt x n) && rises (suc x) n xs

none_before : (lo n : ℕ) (xs : List ℕ) (y : ℕ) → rises lo n xs ≡ true → y < lo → has xs y ≡ false
none_before lo n [] y rise low = refl
none_before lo n (x ∷ xs) y rise low =
    let both = and_parts (nat_le lo x && nat_lt x n) (rises (suc x) n xs) rise in
    let from = leb-true lo x (and_parts (nat_le lo x) (nat_lt x n) both.0).0 in
    rw (ne_eqb y x (omega (arith, from))) (none_before (suc x) n xs y both.1 (omega (arith, from)))

-- as many numbers are in a rising list as it is long
pub count_rising : (lo n : ℕ) (xs : List ℕ) → rises lo n xs ≡ true → count_below (has xs) n ≡ length xs
count_rising lo n [] rise = count_below-none (has []) n (λ x lt. refl)
count_rising lo n (x ∷ xs) rise =
    let both = and_parts (nat_le lo x && nat_lt x n) (rises (suc x) n xs) rise in
    let below = ltb-true x n (and_parts (nat_le lo x) (nat_lt x n) both.0).1 in
    let rest = count_rising (suc x) n xs both.1 in
    let first : has (x ∷ xs) x ≡ true = rw (eq-eqb x x refl) refl in
    let one = count_below-less (has (x ∷ xs)) (has xs) n x below first (none_before (suc x) n xs x both.1 (omega arith)) (λ y other. rw (ne_eqb y x other) refl) in
    omega (arith, rest, one)

-- the cell of a depth on the way to an address
abbrev pub cell : ℕ → ℕ → ℕ
cell d v = v / (4096 * 512 ^ (4 - d))

cell_is : (w x v : ℕ) → 0 < w → x * w ≤ v → v < x * w + w → x ≡ v / w
cell_is w x v some from to =
    let e = div-add-mod v w in
    let r = mod-lt v some in
    elim (cases_lt x (v / w)) [
      | inl less ↦ let m : w * (x + 1) ≤ w * (v / w) = mul-le-mul_left w (omega arith) in absurd (omega (arith, e, to, m))
      | inr ge ↦ elim (cases_lt (v / w) x) [
        | inl more ↦ let m : w * (v / w + 1) ≤ w * x = mul-le-mul_left w (omega arith) in absurd (omega (arith, e, r, from, m))
        | inr le ↦ omega arith
      ]
    ]

pub page_on : (d x v : ℕ) → d ≤ 4 → is_on_path d x (page_want v) ≡ (x == cell d v)
page_on d x v le =
    let some : 0 < 4096 * 512 ^ (4 - d) = omega (arith, width_pos (4 - d)) in
    let e = div-add-mod v (4096 * 512 ^ (4 - d)) in
    let r = mod-lt v some in
    same_truth (is_on_path d x (page_want v)) (x == cell d v)
    (λ on.
    let is = tests_say (x * (4096 * 512 ^ (4 - d)) + 1) (v + 1) v ((x + 1) * (4096 * 512 ^ (4 - d))) (d + 0) 4 on in
    eq-eqb x (cell d v) (cell_is (4096 * 512 ^ (4 - d)) x v some (omega (arith, is.1)) (omega (arith, is.2))))
    (λ same.
    let is = eqb-true x (cell d v) same in
    let at : x * (4096 * 512 ^ (4 - d)) ≡ cell d v * (4096 * 512 ^ (4 - d)) = ap (λ k. k * (4096 * 512 ^ (4 - d))) is in
    tests_hold (x * (4096 * 512 ^ (4 - d)) + 1) (v + 1) v ((x + 1) * (4096 * 512 ^ (4 - d))) (d + 0) 4 (omega arith)
    (omega (arith, at, e, r)) (omega (arith, at, e, r)))

-- wants of a page each want the cells on the ways to them
pub pages_wanted : (vs : List ℕ) (d x : ℕ) → d ≤ 4 → is_wanted (map page_want vs) d x ≡ has (map (cell d) vs) x
pages_wanted [] d x le = refl
pages_wanted (v ∷ vs) d x le = ap (λ t. t || is_wanted (map page_want vs) d x) (page_on d x v le) ∙ ap (λ t. (x == cell d v) || t) (pages_wanted vs d x le)

-- where the absent cells that are wanted are those of a rising list
pub missing_listed : (img : List ℕ) (wants : List Want) (d : ℕ) (cells : List ℕ) → rises 0 (512 ^ d) cells ≡ true
    → ((x : ℕ) → (is_wanted wants d x && (page_at img d x == 0)) ≡ has cells x) → missing_at img wants d ≡ length cells
unfolding missing_at
missing_listed img wants d cells rise each =
    count_below-same (has cells) (λ x. is_wanted wants d x && (page_at img d x == 0)) (512 ^ d) (λ x lt. each x) ∙ count_rising 0 (512 ^ d) cells rise

-- as many numbers are in a range as it is long
pub count_range : (lo hi n : ℕ) → lo ≤ hi → count_below (λ x. nat_le lo x && nat_lt x hi) n ≡ min n hi - lo
unfolding count_below
count_range lo hi zero le = omega arith
count_range lo hi (suc n) le =
    let rest = count_range lo hi n le in
    elim (cases_lt n lo) [
      | inl low ↦ rw (lt-leb lo n low) (omega (arith, rest))
      | inr from ↦ elim (cases_lt n hi) [
        | inl lt ↦ rw (le-leb lo n from, lt-ltb n hi lt) (omega (arith, rest))
        | inr past ↦ rw (le-leb lo n from, le-ltb n hi past) (omega (arith, rest))
      ]
    ]
