-- A device that a call left.
use Rattle.std.proofs.Common.{◌≡◌, ◌⊎◌, inl, inr, Option, Some, None, Result, IsSomeAnd, refl, sym, subst}
use Rattle.ct_pm.specs.Phase.{Phase}
use Rattle.ct_tree.specs.Lands.{Lands}
use Rattle.ct_tree.specs.Step.{Op}
use Rattle.ct_tree.specs.Tree.{Tree}
use Rattle.ct_call.specs.Calls.{Does, StandsFor, after, most_pairs}
use Rattle.ct_call.specs.Mounted.{Volume}
use Rattle.ct_call.specs.Seen.{device_in, ready_in}
use Rattle.ct_call.specs.declared.mount.FsError.{FsError}
use Rattle.ct_call.specs.declared.mount.State.{State}

-- whatever the call answers, the words land on a tree
pub call_lands : {D T : Type 0} {bound : _} (old new : Option (State D bound)) {result : Result T FsError} {op : Op} (dev : D) (t : Tree)
    → IsSomeAnd (ready_in old) (λ now. StandsFor (bound.words now.dev) t)
    → ((was : Volume D) → ready_in old ≡ Some was → (t : Tree) → StandsFor (bound.words was.dev) t → Does was t op new result)
    → Some dev ≡ device_in new → (t : Tree) × Lands (bound.words dev) t
call_lands {D} {T} {bound} old new {result} {op} dev t stands does left = here (ready_in old) refl stands
  where
    here : (found : Option (Volume D)) → ready_in old ≡ found → IsSomeAnd found (λ now. StandsFor (bound.words now.dev) t) → (t : Tree) × Lands (bound.words dev) t
    here None is none = absurd none
    here (Some was) is st =
        let both : Lands (bound.words dev) t ⊎ Lands (bound.words dev) (after t op) =
        (subst (λ found. IsSomeAnd found (λ dev. Phase (λ image. Lands image t ⊎ Lands image (after t op)) (most_pairs op) (bound.told was.dev) (bound.told dev) (bound.words dev))) (sym left) (does was is t st).phase).reads.has in
        elim both [ inl lands ↦ (t, lands) | inr lands ↦ (after t op, lands) ]
