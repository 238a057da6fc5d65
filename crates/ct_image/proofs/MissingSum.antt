-- What is missing for wants in two parts, of which the second is asked for on another image.
use Rattle.std.proofs.Common.{◌≡◌, ℕ, ◌+◌, ◌^◌, ◌≤◌, Bool, true, false, List, [], ◌∷◌, ◌++◌, refl, ap, ◌∙◌, inl, inr, arith}
use Rattle.std.specs.Prelude.{◌==◌, ◌&&◌, ◌||◌, not}
use Rattle.std.proofs.lemmas.Bool.{cases_Bool, false≢true, or_left}
use Rattle.ct_base.specs.Walk.{page_at}
use Rattle.ct_base.specs.Wants.{Want, is_on_path, is_wanted, missing_at, missing}
use Rattle.ct_image.proofs.MissingLess.{count_below-same, missing_le}
use Rattle.ct_image.proofs.Turns.{TurnsBack, count_below-turned, count_below-parts}

pub is_wanted-append : (xs ys : List Want) (d x : ℕ) → is_wanted (xs ++ ys) d x ≡ (is_wanted xs d x || is_wanted ys d x)
is_wanted-append [] ys d x = refl
is_wanted-append (a ∷ xs) ys d x = elim (cases_Bool (is_on_path d x a)) [
  | inl t ↦ rw t refl
  | inr f ↦ rw f (is_wanted-append xs ys d x)
]

-- A cell that is wanted later and absent then goes to one that was absent, and is wanted for what is left but not first;
-- and so back.
pub record Goes (old new : List ℕ) (first later left : List Want) (d : ℕ) : Type 0 where
  pub to : ℕ → ℕ
  pub turns : TurnsBack to (512 ^ d)
  pub each : (x : ℕ) → (is_wanted later d x && (page_at new d x == 0)) ≡ ((is_wanted left d (to x) && not (is_wanted first d (to x))) && (page_at old d (to x) == 0))

either_part : (f l z : Bool) → ((f || l) && z) ≡ ((f && z) || ((l && not f) && z))
either_part true true true = refl
either_part true true false = refl
either_part true false true = refl
either_part true false false = refl
either_part false true true = refl
either_part false true false = refl
either_part false false true = refl
either_part false false false = refl

apart_part : (f l z : Bool) → (f && z) ≡ true → ((l && not f) && z) ≡ false
apart_part true true z is = refl
apart_part true false z is = refl
apart_part false l z is = absurd (false≢true is)

missing_at_sum : (old new : List ℕ) (first later left : List Want) (d : ℕ) → Goes old new first later left d → missing_at new later d + missing_at old first d ≡ missing_at old (first ++ left) d
unfolding missing_at
missing_at_sum old new first later left d g =
    let n = 512 ^ d in
    let q : ℕ → Bool = λ x. (is_wanted left d x && not (is_wanted first d x)) && (page_at old d x == 0) in
    let here = count_below-same (λ x. q (g.to x)) (λ x. is_wanted later d x && (page_at new d x == 0)) n (λ x lt. g.each x) in
    let turned = count_below-turned g.to q n g.turns in
    let parts = count_below-parts (λ x. is_wanted first d x && (page_at old d x == 0)) q (λ x. is_wanted (first ++ left) d x && (page_at old d x == 0)) n
    (λ x. ap (λ b. b && (page_at old d x == 0)) (is_wanted-append first left d x) ∙ either_part (is_wanted first d x) (is_wanted left d x) (page_at old d x == 0))
    (λ x. apart_part (is_wanted first d x) (is_wanted left d x) (page_at old d x == 0)) in
    omega (arith, here, turned, parts)

-- What is missing later and what was missing first are together what was missing for both.
pub missing_sum : (old new : List ℕ) (first later left : List Want) → ((d : ℕ) → 1 ≤ d → d ≤ 4 → Goes old new first later left d)
    → missing new later + missing old first ≡ missing old (first ++ left)
unfolding missing
missing_sum old new first later left goes =
    let at = λ (d : ℕ) (from : 1 ≤ d) (to : d ≤ 4). missing_at_sum old new first later left d (goes d from to) in
    omega (arith, at 1 (omega arith) (omega arith), at 2 (omega arith) (omega arith), at 3 (omega arith) (omega arith), at 4 (omega arith) (omega arith))

-- What is missing first is no more.
pub missing_first : (img : List ℕ) (first more : List Want) → missing img first ≤ missing img (first ++ more)
missing_first img first more = missing_le img first (first ++ more) (λ d x is. is_wanted-append first more d x ∙ or_left _ _ is)
