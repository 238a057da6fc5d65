-- The first check that fails, where a group of checks was made at once.
use Rattle.std.proofs.Common.{◌≡◌, List, [], ◌∷◌, ◌++◌, refl, Some, None, Option}
use Rattle.ct_tree.specs.Checks.{first_of}
use Rattle.ct_tree.specs.declared.call.Refusal.{Refusal}

pub first_none : (c : Option Refusal) (cs : List (Option Refusal)) → first_of (c ∷ cs) ≡ None → (c ≡ None) × (first_of cs ≡ None)
first_none None cs h = (refl, h)
first_none (Some r) cs h = absurd (cc)

pub first_stops : (cs ds : List (Option Refusal)) (r : Refusal) → first_of cs ≡ Some r → first_of (cs ++ ds) ≡ Some r
first_stops [] ds r h = absurd (cc)
first_stops (None ∷ cs) ds r h = first_stops cs ds r h
first_stops (Some q ∷ cs) ds r h = h

pub first_passes : (cs ds : List (Option Refusal)) → first_of cs ≡ None → first_of (cs ++ ds) ≡ first_of ds
first_passes [] ds h = refl
first_passes (None ∷ cs) ds h = first_passes cs ds h
first_passes (Some q ∷ cs) ds h = absurd (cc)
