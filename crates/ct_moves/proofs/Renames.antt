-- A rename whose checks were made in groups.
use Rattle.std.proofs.Common.{◌≡◌, ◌∙◌, ℕ, List, [], ◌∷◌, refl, sym, ap, Some, None, Option, Ok, Result, Bool, true, false}
use Rattle.std.specs.Prelude.{IsErrAnd, if◌then◌else◌}
use Rattle.std.specs.Str.{bytes_eq}
use Rattle.ct_tree.specs.Tree.{Tree}
use Rattle.ct_tree.specs.Checks.{at, first_of, has_none, in_the_way, names, no_dir, no_node, refuse_if, unlike}
use Rattle.ct_tree.specs.Named.{AreNames}
use Rattle.ct_tree.specs.Resolve.{cut, lies_below, node_in, parent, put, resolve}
use Rattle.ct_tree.specs.Step.{refusal, rename}
use Rattle.ct_tree.specs.declared.call.Refusal.{Refusal}
use Rattle.ct_tree.specs.declared.call.Refusal.TheVariants.{IntoSelf, IsRoot}
use Rattle.ct_tree.specs.declared.call.Reply.{Reply}
use Rattle.ct_tree.specs.declared.call.Reply.TheVariants.{Done}
use Rattle.ct_tree.specs.declared.stop.Stop.{Stop}
use Rattle.ct_tree.specs.declared.stop.Stop.TheVariants.{Refused}
use Rattle.ct_tree.proofs.Exchanges.{pass}
use Rattle.ct_tree.proofs.Firsts.{first_none, first_passes, first_stops}
use Rattle.ct_moves.specs.Does.{Does}
use Rattle.ct_moves.proofs.Refused.{refused}

abbrev pub move_checks : Tree → List (List ℕ) → List (List ℕ) → List (Option Refusal)
move_checks t ns ms =
    refuse_if (has_none ns) IsRoot ∷ refuse_if (has_none ms) IsRoot ∷ no_node (resolve t ns) ∷ no_dir (resolve t (parent ms)) ∷ refuse_if (lies_below ns ms) IntoSelf ∷ []

not_refused : (b : Bool) (r : Refusal) → refuse_if b r ≡ None → b ≡ false
not_refused true r h = absurd (cc)
not_refused false r h = refl

pub not_into_itself : (t : Tree) (ns ms : List (List ℕ)) → first_of (move_checks t ns ms) ≡ None → lies_below ns ms ≡ false
not_into_itself t ns ms h =
    let a = first_none (refuse_if (has_none ns) IsRoot) _ h in
    let b = first_none (refuse_if (has_none ms) IsRoot) _ a.1 in
    let d = first_none (no_node (resolve t ns)) _ b.1 in
    let e = first_none (no_dir (resolve t (parent ms))) _ d.1 in
    not_refused (lies_below ns ms) IntoSelf (first_none (refuse_if (lies_below ns ms) IntoSelf) [] e.1).0

module _ (t : Tree) (path to : List ℕ) (ns ms : List (List ℕ)) (p : AreNames path ns) (q : AreNames to ms) where
  as_told : first_of (move_checks t (names path) (names to)) ≡ first_of (move_checks t ns ms)
  as_told = ap (λ n. first_of (move_checks t n (names to))) p.same ∙ ap (λ m. first_of (move_checks t ns m)) q.same

  pub rename_fails : (result : Result Reply Stop) (r : Refusal) → IsErrAnd result (λ s. s ≡ Refused r) → first_of (move_checks t ns ms) ≡ Some r → Does t (rename path to) result t
  rename_fails result r e h =
      refused t (rename path to) result r e
      (pass _ _ p.path_is ∙ pass _ _ q.path_is ∙ first_stops (move_checks t (names path) (names to)) (in_the_way t path to ∷ []) r (as_told ∙ h))

  module _ (h : first_of (move_checks t ns ms) ≡ None) where
    goes_on : refusal t (rename path to) ≡ first_of (in_the_way t path to ∷ [])
    goes_on = pass _ _ p.path_is ∙ pass _ _ q.path_is ∙ first_passes (move_checks t (names path) (names to)) (in_the_way t path to ∷ []) (as_told ∙ h)

    -- to where it stands
    pub rename_stays : true ≡ bytes_eq path to → Does t (rename path to) (Ok Done) t
    rename_stays one = (
      goes_on ∙ pass _ _ (ap (λ b. if b then None else unlike (at t path) (at t to)) (sym one)),
      ap (λ b. (Done, if b then t else put (cut t (names path)) (names to) (node_in (at t path)))) one,
    )

    module _ (other : false ≡ bytes_eq path to) where
      way : in_the_way t path to ≡ unlike (resolve t ns) (resolve t ms)
      way =
          ap (λ b. if b then None else unlike (at t path) (at t to)) (sym other) ∙ ap (λ n. unlike (resolve t n) (resolve t (names to))) p.same
          ∙ ap (λ m. unlike (resolve t ns) (resolve t m)) q.same

      pub rename_blocked : (result : Result Reply Stop) (r : Refusal) → IsErrAnd result (λ s. s ≡ Refused r) → unlike (resolve t ns) (resolve t ms) ≡ Some r → Does t (rename path to) result t
      rename_blocked result r e like = refused t (rename path to) result r e (goes_on ∙ ap (λ c. first_of (c ∷ [])) (way ∙ like))

      pub rename_moves : (new : Tree) → unlike (resolve t ns) (resolve t ms) ≡ None → new ≡ put (cut t ns) ms (node_in (resolve t ns)) → Does t (rename path to) (Ok Done) new
      rename_moves new like made = (
        goes_on ∙ pass _ _ (way ∙ like),
        ap (λ u. (Done, u)) (
            made ∙ ap (λ n. put (cut t n) ms (node_in (resolve t n))) (sym p.same) ∙ ap (λ m. put (cut t (names path)) m (node_in (at t path))) (sym q.same)
            ∙ ap (λ b. if b then t else put (cut t (names path)) (names to) (node_in (at t path))) other
            ),
      )
