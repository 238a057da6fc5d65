-- The pages of a partition, and the pieces by which it moves whole.
use Rattle.std.proofs.Common.{◌≡◌, ℕ, zero, suc, ◌+◌, ◌*◌, ◌/◌, ◌%◌, ◌^◌, ◌<◌, ◌≤◌, List, [], ◌∷◌, length, refl, sym, ap, subst, ◌∙◌, inl, inr, arith}
use Rattle.std.specs.Prelude.{All}
use Rattle.std.proofs.Math.Nat.{pow-suc, pow-le-pow_right, suc-mul, mul-mod_left, div-add-mod}
use Rattle.std.proofs.lemmas.Bool.{cases_lt, lt-ltb, le-ltb, cond-true, cond-false}
use Rattle.std.proofs.lemmas.List.Elements.{All-nil, All-cons}
use Rattle.ct_base.specs.Inode.{Partition, IsPart, part_end, number_of}
use Rattle.ct_base.specs.Pieces.{pieces, pieces_from, height_at}
use Rattle.ct_parts.proofs.Lengths.{partition_bounds}
use Rattle.ct_parts.proofs.Lists.{base-is, part_partition}
use Rattle.ct_pieces.proofs.Least.{height_block, height_greatest}

-- ---- what is aligned to a partition's length

pub part_high : (p : Partition) → IsPart p → part_end p ≤ 281474976710656
part_high p part =
    let b = partition_bounds p.level (number_of p) (part_partition p part) in
    omega (arith, b.1, base-is p part)

aligned_once : (l x : ℕ) → x % (4096 * 8 ^ suc l) ≡ 0 → x % (4096 * 8 ^ l) ≡ 0
aligned_once l x whole =
    let w = 4096 * 8 ^ l in
    let wide : 4096 * 8 ^ suc l ≡ 8 * (4096 * 8 ^ l) = omega (arith, pow-suc 8 l) in
    let sum = div-add-mod x (4096 * 8 ^ suc l) in
    let q = x / (4096 * 8 ^ suc l) in
    let is : x ≡ q * 8 * w = omega (arith, sum, whole, wide, ap (λ k. k * q) wide) in
    ap (λ k. k % w) is ∙ mul-mod_left (q * 8) w

pub aligned_down : (d l x : ℕ) → x % (4096 * 8 ^ (d + l)) ≡ 0 → x % (4096 * 8 ^ l) ≡ 0
aligned_down zero l x whole = subst (λ (k : ℕ). x % (4096 * 8 ^ k) ≡ 0) (omega arith) whole
aligned_down (suc d) l x whole =
    let more : suc d + l ≡ suc (d + l) = omega arith in
    aligned_down d l x (aligned_once (d + l) x (subst (λ (k : ℕ). x % (4096 * 8 ^ k) ≡ 0) more whole))

-- The first page of what is aligned so.
pub record First (l base : ℕ) : Type 0 where
  pub page : base / 4096 % 8 ^ l ≡ 0
  pub start : base ≡ base / 4096 * 4096

pub first_page : (l base : ℕ) → l ≤ 8 → base % (4096 * 8 ^ l) ≡ 0 → First l base
first_page zero base le whole = record { page = omega arith; start = omega arith }
first_page (suc zero) base le whole = record { page = omega arith; start = omega arith }
first_page (suc (suc zero)) base le whole = record { page = omega arith; start = omega arith }
first_page (suc (suc (suc zero))) base le whole = record { page = omega arith; start = omega arith }
first_page (suc (suc (suc (suc zero)))) base le whole = record { page = omega arith; start = omega arith }
first_page (suc (suc (suc (suc (suc zero))))) base le whole = record { page = omega arith; start = omega arith }
first_page (suc (suc (suc (suc (suc (suc zero)))))) base le whole = record { page = omega arith; start = omega arith }
first_page (suc (suc (suc (suc (suc (suc (suc zero))))))) base le whole = record { page = omega arith; start = omega arith }
first_page (suc (suc (suc (suc (suc (suc (suc (suc zero)))))))) base le whole = record { page = omega arith; start = omega arith }
first_page (suc (suc (suc (suc (suc (suc (suc (suc (suc l))))))))) base le whole = absurd (omega arith)

-- ---- the height of the pieces

-- A partition of level l is a row of blocks of height h, and shorter than one of the next height.
pub record Heights (l : ℕ) : Type 0 where
  pub height : l / 3 ≤ 2
  pub blocks : 8 ^ l % 512 ^ (l / 3) ≡ 0
  pub at_least : 512 ^ (l / 3) ≤ 8 ^ l
  pub shorter : 8 ^ l < 512 ^ (l / 3 + 1)
  pub aligned : (x : ℕ) → x % 8 ^ l ≡ 0 → x % 512 ^ (l / 3) ≡ 0
  pub few : (c : ℕ) → c * 512 ^ (l / 3) ≤ 8 ^ l → c ≤ 64
  -- all of it lies under one table
  pub under : (a o : ℕ) → a % 8 ^ l ≡ 0 → o < 8 ^ l → (a + o) / 512 ^ (l / 3 + 1) ≡ a / 512 ^ (l / 3 + 1)

pub heights : (l : ℕ) → l ≤ 8 → Heights l
heights zero le = record { height = omega arith; blocks = refl; at_least = omega arith; shorter = omega arith; aligned = λ x whole. omega arith; few = λ c lt. omega arith; under = λ a o whole lt. omega arith }
heights (suc zero) le = record { height = omega arith; blocks = refl; at_least = omega arith; shorter = omega arith; aligned = λ x whole. omega arith; few = λ c lt. omega arith; under = λ a o whole lt. omega arith }
heights (suc (suc zero)) le = record { height = omega arith; blocks = refl; at_least = omega arith; shorter = omega arith; aligned = λ x whole. omega arith; few = λ c lt. omega arith; under = λ a o whole lt. omega arith }
heights (suc (suc (suc zero))) le = record { height = omega arith; blocks = refl; at_least = omega arith; shorter = omega arith; aligned = λ x whole. omega arith; few = λ c lt. omega arith; under = λ a o whole lt. omega arith }
heights (suc (suc (suc (suc zero)))) le = record { height = omega arith; blocks = refl; at_least = omega arith; shorter = omega arith; aligned = λ x whole. omega arith; few = λ c lt. omega arith; under = λ a o whole lt. omega arith }
heights (suc (suc (suc (suc (suc zero))))) le = record { height = omega arith; blocks = refl; at_least = omega arith; shorter = omega arith; aligned = λ x whole. omega arith; few = λ c lt. omega arith; under = λ a o whole lt. omega arith }
heights (suc (suc (suc (suc (suc (suc zero)))))) le = record { height = omega arith; blocks = refl; at_least = omega arith; shorter = omega arith; aligned = λ x whole. omega arith; few = λ c lt. omega arith; under = λ a o whole lt. omega arith }
heights (suc (suc (suc (suc (suc (suc (suc zero))))))) le = record { height = omega arith; blocks = refl; at_least = omega arith; shorter = omega arith; aligned = λ x whole. omega arith; few = λ c lt. omega arith; under = λ a o whole lt. omega arith }
heights (suc (suc (suc (suc (suc (suc (suc (suc zero)))))))) le = record { height = omega arith; blocks = refl; at_least = omega arith; shorter = omega arith; aligned = λ x whole. omega arith; few = λ c lt. omega arith; under = λ a o whole lt. omega arith }
heights (suc (suc (suc (suc (suc (suc (suc (suc (suc l))))))))) le = absurd (omega arith)

-- one block more fits, and what follows it is aligned
block_step : (h x y n : ℕ) → h ≤ 2 → x % 512 ^ h ≡ 0 → y % 512 ^ h ≡ 0 → n % 512 ^ h ≡ 0 → (x < n → x + 512 ^ h ≤ n) × ((x + 512 ^ h) % 512 ^ h ≡ 0) × ((y + x) % 512 ^ h ≡ 0)
block_step zero x y n le p q r = (λ lt. omega arith, omega arith, omega arith)
block_step (suc zero) x y n le p q r = (λ lt. omega arith, omega arith, omega arith)
block_step (suc (suc zero)) x y n le p q r = (λ lt. omega arith, omega arith, omega arith)
block_step (suc (suc (suc h))) x y n le p q r = absurd (omega arith)

-- Two ranges of n pages, where all begins and ends at blocks of height h, and n is shorter than the next.
pub record Blocks (a b n h : ℕ) : Type 0 where
  pub low : h ≤ 2
  pub first : a % 512 ^ h ≡ 0
  pub second : b % 512 ^ h ≡ 0
  pub whole : n % 512 ^ h ≡ 0
  pub short : n < 512 ^ (h + 1)

-- each piece has height h
abbrev pub IsEven : ℕ → ℕ → ℕ × ℕ → Type 0
IsEven n h piece = (piece.1 ≡ h) × (piece.0 < n)

module _ {a b n h : ℕ} (s : Blocks a b n h) where
  height_is : (i : ℕ) → i % 512 ^ h ≡ 0 → i < n → height_at a b n i ≡ h
  height_is i at lt =
      let low = s.low in
      let one = block_step h i a n s.low at s.first s.whole in
      let two = block_step h i b n s.low at s.second s.whole in
      let block = height_block a b n i lt in
      let at_least = height_greatest a b n i h (record { height = omega arith; first = one.2; second = two.2; inside = one.0 lt }) in
      elim (cases_lt h (height_at a b n i)) [
        | inr le ↦ omega (arith, le, at_least)
        | inl higher ↦
            let wide = pow-le-pow_right {n = 512} (omega arith) {i = h + 1} {j = height_at a b n i} (omega arith) in
            absurd (omega (arith, block.inside, wide, s.short))
      ]

  pieces_even : (steps i : ℕ) → i % 512 ^ h ≡ 0 → All (IsEven n h) (pieces_from steps a b n i) × ((i ≤ n) → length (pieces_from steps a b n i) * 512 ^ h + i ≤ n)
  pieces_even zero i at = (All-nil (IsEven n h), λ le. omega arith)
  pieces_even (suc steps) i at = elim (cases_lt i n) [
    | inl lt ↦
        let is = height_is i at lt in
        let step = block_step h i a n s.low at s.first s.whole in
        let next : i + 512 ^ height_at a b n i ≡ i + 512 ^ h = ap (λ k. i + 512 ^ k) is in
        let rest = pieces_even steps (i + 512 ^ height_at a b n i) (ap (λ k. k % 512 ^ h) next ∙ step.1) in
        let inside : i + 512 ^ height_at a b n i ≤ n = omega (arith, next, step.0 lt) in
        let list : pieces_from (suc steps) a b n i ≡ (i, height_at a b n i) ∷ pieces_from steps a b n (i + 512 ^ height_at a b n i) = cond-true _ _ _ (lt-ltb i n lt) in (
          subst (All (IsEven n h)) (sym list) (All-cons (IsEven n h) (i, height_at a b n i) _ (is, lt) rest.0),
          λ le. omega (arith, ap (λ l. length l * 512 ^ h) list, suc-mul (length (pieces_from steps a b n (i + 512 ^ height_at a b n i))) (512 ^ h), rest.1 inside, next),
        )
    | inr past ↦
        let list : pieces_from (suc steps) a b n i ≡ [] = cond-false _ _ _ (le-ltb i n past) in
        (subst (All (IsEven n h)) (sym list) (All-nil (IsEven n h)), λ le. omega (arith, ap (λ l. length l * 512 ^ h) list, le))
  ]

  pub all_even : All (IsEven n h) (pieces a b n)
  all_even = (pieces_even n 0 (first_aligned h s.low)).0
    where
      first_aligned : (h : ℕ) → h ≤ 2 → 0 % 512 ^ h ≡ 0
      first_aligned zero le = refl
      first_aligned (suc zero) le = refl
      first_aligned (suc (suc zero)) le = refl
      first_aligned (suc (suc (suc h))) le = absurd (omega arith)

  pub count_even : length (pieces a b n) * 512 ^ h ≤ n
  count_even = omega (arith, (pieces_even n 0 (first_aligned h s.low)).1 (omega arith))
    where
      first_aligned : (h : ℕ) → h ≤ 2 → 0 % 512 ^ h ≡ 0
      first_aligned zero le = refl
      first_aligned (suc zero) le = refl
      first_aligned (suc (suc zero)) le = refl
      first_aligned (suc (suc (suc h))) le = absurd (omega arith)

-- what holds of each piece of this kind holds of all
pub all_of : (P Q : ℕ × ℕ → Type 0) → ((piece : ℕ × ℕ) → P piece → Q piece) → (ps : List (ℕ × ℕ)) → All P ps → All Q ps
all_of P Q step [] all = All-nil Q
all_of P Q step (piece ∷ ps) all = All-cons Q piece ps (step piece (Rattle.std.proofs.lemmas.List.Elements.All-head P piece ps all)) (all_of P Q step ps (Rattle.std.proofs.lemmas.List.Elements.All-tail P piece ps all))
