-- A mount that keeps a tree holds it, and no other.
use Rattle.std.proofs.Common.{◌≡◌, ℕ, List, Option, Some, None}
use Rattle.std.specs.Prelude.{IsSomeAnd}
use Rattle.std.proofs.Math.Logic.{∥∥₁_elim}
use Rattle.ct_call.specs.Calls.{Holds, Keeps}
use Rattle.ct_call.specs.Mounted.{Volume}
use Rattle.ct_call.specs.Seen.{ready_in}
use Rattle.ct_call.specs.declared.mount.State.{State}
use Rattle.ct_tree.specs.Tree.{Tree}
use Rattle.ct_seen.specs.Held.{HoldsTree, IsHeld, RestFor}
use Rattle.ct_seen.specs.Once.{held_once}
use Rattle.ct_seen.specs.Sets.{tree_set}

kept_in : {V : Type 0} (words : V → List ℕ) (Kept : V → Type 0) (o : Option V) (t : Tree) → ((v : V) → Kept v → RestFor (words v) t) → IsSomeAnd o Kept → IsSomeAnd o (λ v. RestFor (words v) t)
kept_in words Kept None t rests k = absurd k
kept_in words Kept (Some v) t rests k = rests v k

keeps_held : {D : Type 0} {bound : _} (state : Option (State D bound)) (count : ℕ) (t : Tree) → Keeps count state t → IsHeld state t
keeps_held {D = D} {bound = bound} state count t k =
    kept_in (λ (now : Volume D). bound.words now.dev) (λ now. Holds count t (bound.words now.dev) (bound.told now.dev)) (ready_in state) t (λ now h. (h.rest, h.stands)) k

pub keeps_holds : {D : Type 0} {bound : _} (state : Option (State D bound)) (count : ℕ) (t : Tree) → Keeps count state t → HoldsTree state
keeps_holds state count t k = (t, ∣ keeps_held state count t k ∣₁)

-- and that is the one that it holds
pub held_is : {D : Type 0} {bound : _} (state : Option (State D bound)) (held : HoldsTree state) (count : ℕ) (t : Tree) → Keeps count state t → held.0 ≡ t
held_is state held count t k = ∥∥₁_elim held.1 (tree_set held.0 t) (λ h. held_once state held.0 t h (keeps_held state count t k))
