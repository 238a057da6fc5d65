-- Wants are met cell by cell, and one after another.
use Rattle.std.proofs.Common.{◌≡◌, ℕ, zero, suc, ◌+◌, ◌-◌, ◌/◌, ◌^◌, ◌<◌, ◌≤◌, Bool, true, false, List, [], ◌∷◌, length, get_or, refl, sym, ap, ◌∙◌, inl, inr, arith}
use Rattle.std.specs.Prelude.{◌||◌}
use Rattle.std.proofs.Math.Nat.{div-div-eq-div-mul}
use Rattle.std.proofs.Math.Bool.{or-false}
use Rattle.std.proofs.lemmas.Bool.{cases_Bool}
use Rattle.ct_base.specs.Wants.{Want, is_on_path, is_wanted}
use Rattle.ct_walk.specs.Growth.{Covers}
use Rattle.ct_walk.specs.Has.{IsAmong, at_one}
use Rattle.ct_walk.proofs.Cells.{bytes_at, path_at}
use Rattle.ct_walk.proofs.OneWay.{path_is}

or_left : (a b : Bool) → a ≡ true → (a || b) ≡ true
or_left a b t = rw t refl

or_right : (a b : Bool) → b ≡ true → (a || b) ≡ true
or_right a b t = elim (cases_Bool a) [ inl u ↦ rw u refl | inr u ↦ rw (u, t) refl ]

bytes_is : (v d : ℕ) → v / bytes_at d ≡ v / 4096 / 512 ^ (4 - d)
bytes_is v d = sym (div-div-eq-div-mul v 4096 (512 ^ (4 - d)))

-- a want is among itself
pub among_self : (want : Want) → IsAmong want (want ∷ [])
among_self want d x on = ap (λ b. b || false) on

-- and each of a list is among the list
pub among_at : (wants : List Want) (i : ℕ) (want : Want) → i < length wants → want ≡ get_or wants i want → IsAmong want wants
among_at [] i want lt is d x on = absurd (omega arith)
among_at (first ∷ wants) zero want lt is d x on = or_left _ _ (ap (is_on_path d x) (sym is) ∙ on)
among_at (first ∷ wants) (suc i) want lt is d x on = or_right _ _ (among_at wants i want (omega arith) is d x on)

-- the way to an address of a want is wanted with it
pub covers_of : (want : Want) (wants : List Want) (v : ℕ) → IsAmong want wants → want.at ≤ v → v < want.at + want.len → Covers wants (v / 4096) (4 - want.height)
covers_of want wants v among from to d low high =
    ap (is_wanted wants d) (sym (bytes_is v d)) ∙ among d (v / bytes_at d) (path_at want (omega arith) d v (omega arith) from to)

one_among : (want : Want) (v d x : ℕ) → want.at ≤ v → v < want.at + want.len → is_wanted (at_one want.height v) d x ≡ true → is_wanted (want ∷ []) d x ≡ true
one_among want v d x from to wanted =
    let on : is_on_path d x (record { height = want.height; at = v; len = 1 }) ≡ true = sym (or-false _) ∙ wanted in
    let is = path_is want.height v d x on in
    let here : v / bytes_at d ≡ x = bytes_is v d ∙ sym is.1 in
    ap (λ b. b || false) (ap (λ k. is_on_path d k want) (sym here) ∙ path_at want (omega arith) d v is.0 from to)
