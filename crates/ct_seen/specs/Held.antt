-- The tree that a mount holds.
use Rattle.std.specs.Prelude.{ℕ, List, IsSomeAnd}
use Rattle.std.specs.declared.option.Option.{Option}
use Rattle.ct_call.specs.Calls.{StandsFor}
use Rattle.ct_commit.specs.Rest.{IsAtRest}
use Rattle.ct_call.specs.Seen.{ready_in}
use Rattle.ct_call.specs.declared.mount.State.{State}
use Rattle.ct_tree.specs.Tree.{Tree}

-- the words are at rest, and stand for the tree
abbrev pub RestFor : List ℕ → Tree → Type 0
RestFor words t = IsAtRest words × StandsFor words t

-- the mount is ready, and its words stand for the tree
abbrev pub IsHeld : {D : Type 0} {bound : _} → Option (State D bound) → Tree → Type 0
IsHeld {bound = bound} state t = IsSomeAnd (ready_in state) (λ now. RestFor (bound.words now.dev) t)

-- the mount is ready, and its words stand for a tree: for this one, and for no other
abbrev pub HoldsTree : {D : Type 0} {bound : _} → Option (State D bound) → Type 0
HoldsTree state = (t : Tree) × ∥ IsHeld state t ∥₁
