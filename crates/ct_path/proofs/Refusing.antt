-- What callers of the plain tree's checks get: the check that fails where a path leads to nothing, and the node where it leads.
use Rattle.std.proofs.Common.{◌≡◌, ◌≢◌, ℕ, List, ◌∷◌, Result, Err, Some, None, refl, ap, ◌∙◌}
use Rattle.std.specs.Prelude.{is_none}
use Rattle.std.specs.declared.option.Option.{Option}
use Rattle.ct_base.specs.Objects.{Object}
use Rattle.ct_base.specs.Path.{names_of}
use Rattle.ct_tree.specs.Tree.{Tree}
use Rattle.ct_tree.specs.Ordered.{IsTree}
use Rattle.ct_tree.specs.Stands.{Stands}
use Rattle.ct_tree.specs.Checks.{first_of, refuse_if, bad_path, no_node, at}
use Rattle.ct_tree.specs.declared.call.Refusal.{Refusal}
use Rattle.ct_tree.specs.declared.call.Refusal.TheVariants.{BadPath as bad_refusal}
use Rattle.ct_path.specs.declared.fault.PathFault.{PathFault}
use Rattle.ct_path.specs.declared.fault.PathFault.TheVariants.{BadPath, NotFound, NotDir}
use Rattle.ct_path.specs.Resolves.{refusal_of, IsAnswer, Resolves}

no_path : (o : Option (List (List ℕ))) → o ≡ None → refuse_if (is_none o) bad_refusal ≡ Some bad_refusal
no_path None is = refl
no_path (Some xs) is = absurd (cc)

a_path : (o : Option (List (List ℕ))) → o ≢ None → refuse_if (is_none o) bad_refusal ≡ None
a_path None some = absurd (some refl)
a_path (Some xs) some = refl

same_fault : {T : Type 0} (a b : PathFault) (r : Result T PathFault) → r ≡ Err a → r ≡ Err b → a ≡ b
same_fault a b r p q = cc

-- the first check passes exactly where the answer is another
module _ {T : Type 0} (path : List ℕ) (answer : Result T PathFault) (bad : (answer ≡ Err BadPath → names_of path ≡ None) × (names_of path ≡ None → answer ≡ Err BadPath)) where
  pub fails_first : answer ≡ Err BadPath → bad_path path ≡ Some bad_refusal
  fails_first is = no_path (names_of path) (bad.0 is)

  pub passes_first : answer ≢ Err BadPath → bad_path path ≡ None
  passes_first other = a_path (names_of path) (λ none. other (bad.1 none))

module _ {fs : ℕ → Object} {path : List ℕ} (t : Tree) (tree : IsTree t) (stands : Stands fs 1 t) where
  -- the node of the path
  pub node_of : (answer : Result ℕ PathFault) → Resolves fs path answer → answer ≢ Err BadPath → IsAnswer fs (at t path) answer
  node_of answer r other = (r.follows (λ none. other (r.bad.1 none))).tree t tree stands

  later : (fault : PathFault) → fault ≢ BadPath → Resolves fs path (Err fault) → (more : List (Option Refusal)) → first_of (bad_path path ∷ no_node (at t path) ∷ more) ≡ Some (refusal_of fault)
  later fault other r more =
      let answer : Result ℕ PathFault = Err fault in
      let lawful : answer ≢ Err BadPath = λ is. other (same_fault fault BadPath answer refl is) in
      ap (λ q. first_of (q ∷ no_node (at t path) ∷ more)) (passes_first path (Err fault) r.bad lawful)
      ∙ ap (λ found. first_of (no_node found ∷ more)) (node_of (Err fault) r lawful)

  -- the first check that fails is that of the fault
  pub refused : (fault : PathFault) → Resolves fs path (Err fault) → (more : List (Option Refusal)) → first_of (bad_path path ∷ no_node (at t path) ∷ more) ≡ Some (refusal_of fault)
  refused BadPath r more = ap (λ q. first_of (q ∷ no_node (at t path) ∷ more)) (fails_first path (Err BadPath) r.bad refl)
  refused NotFound r more = later NotFound (λ is. cc) r more
  refused NotDir r more = later NotDir (λ is. cc) r more
