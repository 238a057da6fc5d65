-- An exchange whose paths were checked in one group.
use Rattle.std.proofs.Common.{◌≡◌, ◌∙◌, ℕ, List, [], ◌∷◌, ap, Some, Option, Result}
use Rattle.std.specs.Prelude.{IsErrAnd}
use Rattle.ct_tree.specs.Tree.{Tree}
use Rattle.ct_tree.specs.Checks.{above, bad_range, first_of, is_dir, names, no_node, overlap}
use Rattle.ct_tree.specs.Named.{AreNames}
use Rattle.ct_tree.specs.Resolve.{resolve}
use Rattle.ct_tree.specs.Step.{exchange, exchange_limit}
use Rattle.ct_tree.specs.declared.call.Refusal.{Refusal}
use Rattle.ct_tree.specs.declared.call.Refusal.TheVariants.{TooLong}
use Rattle.ct_tree.specs.declared.call.Reply.{Reply}
use Rattle.ct_tree.specs.declared.stop.Stop.{Stop}
use Rattle.ct_tree.specs.declared.stop.Stop.TheVariants.{Refused}
use Rattle.ct_tree.proofs.Exchanges.{pass}
use Rattle.ct_tree.proofs.Firsts.{first_stops}
use Rattle.ct_moves.specs.Does.{Does}
use Rattle.ct_moves.proofs.Refused.{refused}

abbrev pub file_checks : Tree → List (List ℕ) → List (List ℕ) → List (Option Refusal)
file_checks t ns ms = no_node (resolve t ns) ∷ no_node (resolve t ms) ∷ is_dir (resolve t ns) ∷ is_dir (resolve t ms) ∷ []

module _ (t : Tree) (path other : List ℕ) (off other_off len : ℕ) (ns ms : List (List ℕ)) (p : AreNames path ns) (q : AreNames other ms) where
  pub exchange_fails : (result : Result Reply Stop) (r : Refusal) → IsErrAnd result (λ s. s ≡ Refused r) → first_of (file_checks t ns ms) ≡ Some r →
      Does t (exchange path off other other_off len) result t
  exchange_fails result r e h =
      let told : first_of (file_checks t (names path) (names other)) ≡ Some r =
      ap (λ n. first_of (file_checks t n (names other))) p.same ∙ ap (λ m. first_of (file_checks t ns m)) q.same ∙ h in
      refused t (exchange path off other other_off len) result r e (
      pass _ _ p.path_is ∙ pass _ _ q.path_is
      ∙ first_stops (file_checks t (names path) (names other)) (bad_range t path off other other_off len ∷ overlap path off other other_off len ∷ above len exchange_limit TooLong ∷ []) r told
      )
