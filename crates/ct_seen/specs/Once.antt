-- A mount holds one tree alone, in one way, and that is a tree with a directory at its root.
use Rattle.std.specs.Prelude.{◌≡◌, ℕ, List, Some, None, IsSomeAnd}
use Rattle.std.specs.declared.option.Option.{Option}
use Rattle.std.proofs.Math.Logic.{∥∥₁_elim}
use mathlib.Core.HLevel.{Σ_prop_path}
use mathlib.Core.Logic.{∥∥₁_prop}
use Rattle.ct_base.specs.Rules.{names}
use Rattle.ct_call.proofs.Resting.{rest_lands}
use Rattle.ct_call.specs.Mounted.{Volume}
use Rattle.ct_call.specs.Seen.{ready_in}
use Rattle.ct_call.specs.declared.mount.State.{State}
use Rattle.ct_seen.specs.Held.{HoldsTree, IsHeld, RestFor}
use Rattle.ct_seen.specs.Sets.{tree_prop, tree_set}
use Rattle.ct_state.proofs.Landing.{lands_dir}
use Rattle.ct_state.proofs.Unique.{stands_once}
use Rattle.ct_tree.specs.Lands.{files}
use Rattle.ct_tree.specs.Ordered.{IsTree}
use Rattle.ct_tree.specs.Resolve.{IsDir}
use Rattle.ct_tree.specs.Tree.{Tree, File, Dir}

one_tree : (words : List ℕ) (t u : Tree) → RestFor words t → RestFor words u → t ≡ u
one_tree words t u p q = stands_once (files words) (p.0.sound names) t u 1 p.1.tree q.1.tree p.1.stands q.1.stands

module _ {V : Type 0} (words : V → List ℕ) where
  both_hold : (o : Option V) (t u : Tree) → IsSomeAnd o (λ v. RestFor (words v) t) → IsSomeAnd o (λ v. RestFor (words v) u) → t ≡ u
  both_hold None t u p q = absurd p
  both_hold (Some v) t u p q = one_tree (words v) t u p q

  is_tree : (o : Option V) (t : Tree) → IsSomeAnd o (λ v. RestFor (words v) t) → IsTree t
  is_tree None t p = absurd p
  is_tree (Some v) t p = p.1.tree

  is_rooted : (o : Option V) (t : Tree) → IsSomeAnd o (λ v. RestFor (words v) t) → IsDir t
  is_rooted None t p = absurd p
  is_rooted (Some v) t p = lands_dir (words v) t (rest_lands p.0 p.1)

pub held_once : {D : Type 0} {bound : _} (state : Option (State D bound)) (t u : Tree) → IsHeld state t → IsHeld state u → t ≡ u
held_once {D = D} {bound = bound} state t u p q = both_hold (λ (now : Volume D). bound.words now.dev) (ready_in state) t u p q

pub holds_one : {D : Type 0} {bound : _} (state : Option (State D bound)) → IsProp (HoldsTree state)
holds_one state x y =
    Σ_prop_path (λ (t : Tree). ∥∥₁_prop {A = IsHeld state t})
    (∥∥₁_elim x.1 (tree_set x.0 y.0) (λ p. ∥∥₁_elim y.1 (tree_set x.0 y.0) (λ q. held_once state x.0 y.0 p q)))

pub held_tree : {D : Type 0} {bound : _} (state : Option (State D bound)) (held : HoldsTree state) → IsTree held.0
held_tree {D = D} {bound = bound} state held = ∥∥₁_elim held.1 (tree_prop held.0) (λ p. is_tree (λ (now : Volume D). bound.words now.dev) (ready_in state) held.0 p)

dir_prop : (t : Tree) → IsProp (IsDir t)
dir_prop (File bytes) = λ a b. absurd a
dir_prop (Dir es) = λ a b i. tt

pub held_rooted : {D : Type 0} {bound : _} (state : Option (State D bound)) (held : HoldsTree state) → IsDir held.0
held_rooted {D = D} {bound = bound} state held = ∥∥₁_elim held.1 (dir_prop held.0) (λ p. is_rooted (λ (now : Volume D). bound.words now.dev) (ready_in state) held.0 p)
