-- Cells on the paths of wants.
use Rattle.std.proofs.Common.{◌≡◌, ◌≢◌, ℕ, zero, suc, ◌+◌, ◌-◌, ◌*◌, ◌/◌, ◌%◌, ◌^◌, ◌<◌, ◌≤◌, Bool, true, false, List, [], ◌∷◌, ◌++◌, refl, sym, ap, subst, ◌∙◌, inl, inr, arith}
use Rattle.std.specs.Prelude.{◌||◌, ◌&&◌, ◌==◌, not}
use Rattle.std.proofs.Math.Nat.{div-div-eq-div-mul, pow-succ', one-le-pow}
use Rattle.std.proofs.lemmas.Nat.{pow-add}
use Rattle.std.proofs.lemmas.Bool.{cases_Bool, cases_lt, and_parts, and_left, and_right, leb-true, ltb-true, lt-leb, le-ltb}
use Rattle.ct_base.specs.Walk.{page_at, next}
use Rattle.ct_base.specs.Wants.{Want, is_on_path, is_wanted, missing}
use Rattle.ct_plan.specs.Few.{AreMet, alike, edge, few_wants}
use Rattle.ct_image.proofs.MissingSum.{missing_sum}
use Rattle.ct_image.proofs.Steps.{page_at-next, next-zero}
use Rattle.ct_image.proofs.Turns.{turns_none}
use Rattle.ct_parts.proofs.Lengths.{number_range}
use Rattle.ct_stage.specs.Staged.{pages_from}
use Rattle.ct_walk.specs.Has.{Has, HasAll}
use Rattle.ct_write.specs.Prepared.{range_wants}

-- the tables above a cell that has a page
up : (img : List ℕ) (m d y : ℕ) → page_at img (m + d) y ≢ 0 → page_at img d (y / 512 ^ m) ≢ 0
up img zero d y there =
    let level : 0 + d ≡ d = omega arith in
    let cell : y ≡ y / 512 ^ 0 = omega arith in
    λ none. there (ap (λ (e : ℕ). page_at img e y) level ∙ ap (page_at img d) cell ∙ none)
up img (suc m) d y there =
    let level : suc m + d ≡ suc (m + d) = omega arith in
    let rest : y / 512 / 512 ^ m ≡ y / 512 ^ suc m = div-div-eq-div-mul y 512 (512 ^ m) ∙ ap (λ k. y / k) (sym (pow-succ' 512 m)) in
    subst (λ (k : ℕ). page_at img d k ≢ 0) rest
    (up img m d (y / 512) (λ none. there (ap (λ (e : ℕ). page_at img e y) level ∙ page_at-next img (m + d) y ∙ ap (λ t. next img t (y % 512)) none ∙ next-zero img (y % 512))))

path_there : (img : List ℕ) (want : Want) → 1 ≤ want.len → Has img want → (d x : ℕ) → is_on_path d x want ≡ true → page_at img d x ≢ 0
path_there img want some has d x is =
    let h = want.height in
    let w = 4096 * 512 ^ (4 - d) in
    let one = and_parts _ _ is in
    let two = and_parts _ _ one.1 in
    let depth = leb-true (d + want.height) 4 one.0 in
    let low = leb-true (x * (4096 * 512 ^ (4 - d)) + 1) (want.at + want.len) two.0 in
    let high = ltb-true want.at ((x + 1) * (4096 * 512 ^ (4 - d))) two.1 in
    let pos = one-le-pow (4 - d) 512 (omega arith) in
    elim (cases_lt want.at (x * (4096 * 512 ^ (4 - d)))) [
      | inl before ↦ at (x * (4096 * 512 ^ (4 - d))) (omega (arith, before)) (omega (arith, low)) depth (number_range x (x * (4096 * 512 ^ (4 - d))) (4096 * 512 ^ (4 - d)) (omega (arith, pos)) (omega arith) (omega (arith, pos)))
      | inr from ↦ at want.at (omega arith) (omega (arith, from, low)) depth (number_range x want.at (4096 * 512 ^ (4 - d)) (omega (arith, pos)) from high)
    ]
  where
    at : (v : ℕ) → want.at ≤ v → v < want.at + want.len → d + want.height ≤ 4 → v / (4096 * 512 ^ (4 - d)) ≡ x → page_at img d x ≢ 0
    at v from to depth number =
        let h = want.height in
        let m = 4 - want.height - d in
        let level : 4 - want.height ≡ (4 - want.height - d) + d = omega (arith, depth) in
        let sum : want.height + (4 - want.height - d) ≡ 4 - d = omega (arith, depth) in
        let width : 4096 * 512 ^ want.height * 512 ^ (4 - want.height - d) ≡ 4096 * 512 ^ (4 - d) =
        omega (arith, pow-add 512 want.height (4 - want.height - d), ap (λ k. 512 ^ k) sum) in
        let above = up img (4 - want.height - d) d (v / (4096 * 512 ^ want.height)) (subst (λ (k : ℕ). page_at img k (v / (4096 * 512 ^ want.height)) ≢ 0) level (has v from to)) in
        subst (λ (k : ℕ). page_at img d k ≢ 0)
        (div-div-eq-div-mul v (4096 * 512 ^ want.height) (512 ^ (4 - want.height - d)) ∙ ap (λ k. v / k) width ∙ number) above

-- what is there for each want meets them all
abbrev pub AreSome : List Want → Type 0
AreSome [] = Unit {0}
AreSome (want ∷ wants) = (1 ≤ want.len) × AreSome wants

pub all_met : (img : List ℕ) (wants : List Want) → AreSome wants → HasAll img wants → AreMet img wants
all_met img [] some has d x from to is = absurd (Rattle.std.proofs.lemmas.Bool.false≢true is)
all_met img (want ∷ wants) some has d x from to is = elim (cases_Bool (is_on_path d x want)) [
  | inl on ↦ path_there img want some.0 has.0 d x on
  | inr off ↦ all_met img wants some.1 has.1 d x from to (sym (ap (λ t. t || is_wanted wants d x) off) ∙ is)
]

three : (p q r : Bool) → p ≡ false → q ≡ false → r ≡ false → (p || (q || (r || false))) ≡ false
three p q r e f g = rw (e, f, g) refl

-- a want that begins above a cell, or stands higher, does not want it
above_path : (d x : ℕ) (want : Want) → (x + 1) * (4096 * 512 ^ (4 - d)) ≤ want.at → is_on_path d x want ≡ false
above_path d x want high = and_right _ _ (and_right _ _ (le-ltb want.at ((x + 1) * (4096 * 512 ^ (4 - d))) high))

pub higher_path : (d x : ℕ) (want : Want) → 4 < d + want.height → is_on_path d x want ≡ false
higher_path d x want high = and_left _ _ (lt-leb (d + want.height) 4 high)

abbrev range_want : ℕ → ℕ → ℕ → Want
range_want a b n = record { height = alike 3 a b + 1; at = a * 4096; len = n * 4096 }

abbrev first_want : ℕ → ℕ → Want
first_want a b = record { height = edge (alike 3 a b) a; at = a * 4096; len = 1 }

abbrev last_want : ℕ → ℕ → ℕ → Want
last_want a b n = record { height = edge (alike 3 a b) (a + n); at = (a + n - 1) * 4096; len = 1 }

pub few_some : (a b n : ℕ) → 1 ≤ n → AreSome (few_wants a b n)
few_some a b n some = (omega arith, (omega arith, (omega arith, tt)))

-- tables alone are wanted of the file's side
pub no_pages : (a b n x : ℕ) → is_wanted (few_wants a b n) 4 x ≡ false
no_pages a b n x = three _ _ _ (higher_path 4 x (range_want a b n) (omega arith)) (higher_path 4 x (first_want a b) (omega arith)) (higher_path 4 x (last_want a b n) (omega arith))

end_of : (d x : ℕ) → d ≤ 3 → x / 512 ^ d < 10 → (x + 1) * (4096 * 512 ^ (4 - suc d)) ≤ 10 * 2 ^ 39
end_of zero x le lt = omega arith
end_of (suc zero) x le lt = omega arith
end_of (suc (suc zero)) x le lt = omega arith
end_of (suc (suc (suc zero))) x le lt = omega arith
end_of (suc (suc (suc (suc d)))) x le lt = absurd (omega arith)

-- and nothing below root slot 10
pub none_below : (a b n d x : ℕ) → 10 * 2 ^ 27 ≤ a → 1 ≤ n → d ≤ 3 → x / 512 ^ d < 10 → is_wanted (few_wants a b n) (suc d) x ≡ false
none_below a b n d x low some le lt =
    let e = end_of d x le lt in
    three _ _ _ (above_path (suc d) x (range_want a b n) (omega (arith, e, low))) (above_path (suc d) x (first_want a b) (omega (arith, e, low))) (above_path (suc d) x (last_want a b n) (omega (arith, e, low, some)))

slot_number : (d x b n : ℕ) → d ≤ 3 → 2 * 2 ^ 27 ≤ b → b + n ≤ 3 * 2 ^ 27 → x * (4096 * 512 ^ (4 - suc d)) + 1 ≤ b * 4096 + n * 4096 → b * 4096 < (x + 1) * (4096 * 512 ^ (4 - suc d)) → x / 512 ^ d ≡ 2
slot_number zero x b n le from to low high = omega arith
slot_number (suc zero) x b n le from to low high = omega arith
slot_number (suc (suc zero)) x b n le from to low high = omega arith
slot_number (suc (suc (suc zero))) x b n le from to low high = omega arith
slot_number (suc (suc (suc (suc d)))) x b n le from to low high = absurd (omega arith)

-- staged pages want cells of slot 2
pub staged_slot : (b n d x : ℕ) → d ≤ 3 → 2 * 2 ^ 27 ≤ b → b + n ≤ 3 * 2 ^ 27 → is_wanted (pages_from b n) (suc d) x ≡ true → x / 512 ^ d ≡ 2
staged_slot b n d x le from to is = elim (cases_Bool (is_on_path (suc d) x (record { height = 0; at = b * 4096; len = n * 4096 }))) [
  | inl on ↦
      let two = and_parts _ _ (and_parts _ _ on).1 in
      slot_number d x b n le from to (leb-true (x * (4096 * 512 ^ (4 - suc d)) + 1) (b * 4096 + n * 4096) two.0) (ltb-true (b * 4096) ((x + 1) * (4096 * 512 ^ (4 - suc d))) two.1)
  | inr off ↦ absurd (Rattle.std.proofs.lemmas.Bool.false≢true (sym (ap (λ t. t || false) off) ∙ is))
]

-- once the tables are made, what is missing of wants in slot 2 is what is left
pub missing_slot : (old new : List ℕ) (a b n : ℕ) (wants : List Want) → 10 * 2 ^ 27 ≤ a → 1 ≤ n → ((d x : ℕ) → d ≤ 3 → is_wanted wants (suc d) x ≡ true → x / 512 ^ d ≡ 2) → ((d x : ℕ) → d ≤ 4 → is_wanted (few_wants a b n) d x ≡ false → page_at new d x ≡ page_at old d x)
    → missing new wants + missing old (few_wants a b n) ≡ missing old (few_wants a b n ++ wants)
missing_slot old new a b n wants low some slot cells = missing_sum old new (few_wants a b n) wants wants (λ d one four. record { to = λ x. x; turns = turns_none (512 ^ d); each = λ x. each d x one four })
  where
    each : (d x : ℕ) → 1 ≤ d → d ≤ 4 → (is_wanted wants d x && (page_at new d x == 0)) ≡ ((is_wanted wants d x && not (is_wanted (few_wants a b n) d x)) && (page_at old d x == 0))
    each zero x one four = absurd (omega arith)
    each (suc d) x one four = elim (cases_Bool (is_wanted wants (suc d) x)) [
      | inr f ↦ rw f refl
      | inl t ↦
          let none : is_wanted (few_wants a b n) (suc d) x ≡ false = none_below a b n d x low some (omega arith) (omega (arith, slot d x (omega arith) t)) in
          ap (λ s. s && (page_at new (suc d) x == 0)) t
          ∙ ap (λ (k : ℕ). k == 0) (cells (suc d) x four none)
          ∙ sym (ap (λ s. (s && not (is_wanted (few_wants a b n) (suc d) x)) && (page_at old (suc d) x == 0)) t ∙ ap (λ s. not s && (page_at old (suc d) x == 0)) none)
    ]

-- so it is of the staged pages
pub missing_range : (old new : List ℕ) (a b n : ℕ) → 10 * 2 ^ 27 ≤ a → 1 ≤ n → 2 * 2 ^ 27 ≤ b → b + n ≤ 3 * 2 ^ 27 → ((d x : ℕ) → d ≤ 4 → is_wanted (few_wants a b n) d x ≡ false → page_at new d x ≡ page_at old d x)
    → missing new (pages_from b n) + missing old (few_wants a b n) ≡ missing old (range_wants a b n)
missing_range old new a b n low some from to cells = missing_slot old new a b n (pages_from b n) low some (λ d x le is. staged_slot b n d x le from to is) cells
