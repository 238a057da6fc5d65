-- The checks of a rename, in their order.
use Rattle.std.proofs.Common.{◌≡◌, ◌≢◌, ℕ, true, false, List, [], ◌∷◌, Result, Ok, Err, Some, None, refl, sym, ap, ◌∙◌}
use Rattle.std.specs.Prelude.{is_none, unwrap_or, if◌then◌else◌}
use Rattle.std.specs.Str.{bytes_eq}
use Rattle.std.specs.declared.option.Option.{Option}
use Rattle.ct_base.specs.Path.{names_of}
use Rattle.ct_path.proofs.Answered.{has_names}
use Rattle.ct_tree.specs.Checks.{at, bad_path, first_of, has_none, in_the_way, into_self, is_root, names, no_dir, no_node, parent_at, refuse_if, unlike, Passes}
use Rattle.ct_tree.proofs.Steps.{first_none}
use Rattle.ct_tree.specs.Resolve.{lies_below}
use Rattle.ct_tree.specs.Step.{refusal, rename}
use Rattle.ct_tree.specs.Tree.{Tree, File, Dir}
use Rattle.ct_tree.specs.declared.call.Refusal.{Refusal}
use Rattle.ct_tree.specs.declared.call.Refusal.TheVariants.{BadPath, IntoSelf, IsRoot}
use Rattle.ct_find.specs.Places.{place_refusal}
use Rattle.ct_rename.specs.Forms.{AreBelow}

-- ---- one check

pub bad_none : (path : List ℕ) {xs : List (List ℕ)} → names_of path ≡ Some xs → bad_path path ≡ None
bad_none path is = ap (λ o. refuse_if (is_none o) BadPath) is

pub good_names : (path : List ℕ) → names_of path ≢ None → (xs : List (List ℕ)) × (names_of path ≡ Some xs)
good_names path good = some (names_of path) refl
  where
    some : (o : Option (List (List ℕ))) → names_of path ≡ o → (xs : List (List ℕ)) × (names_of path ≡ Some xs)
    some None is = absurd (good is)
    some (Some xs) is = (xs, is)

not_root : (o : Option (List (List ℕ))) {xs : List (List ℕ)} (r : Refusal) → o ≡ Some xs → (o ≡ Some [] → ⊥) → refuse_if (has_none (unwrap_or o [])) r ≡ None
not_root None r is below = absurd (cc)
not_root (Some []) r is below = absurd (below refl)
not_root (Some (x ∷ xs)) r is below = refl

root_none : (path : List ℕ) {xs : List (List ℕ)} (r : Refusal) → names_of path ≡ Some xs → path ≢ 47 ∷ [] → is_root path r ≡ None
root_none path r is below = not_root (names_of path) r is (λ none. has_names path below none)

single : (o : Option Refusal) {why : Refusal} → first_of (o ∷ []) ≡ Some why → o ≡ Some why
single None is = absurd (cc)
single (Some r) is = is

ok_node : (r : Result Tree Refusal) {n : Tree} → r ≡ Ok n → no_node r ≡ None
ok_node r is = ap no_node is

unlike_none : (n : Tree) (r : Result Tree Refusal) {e : Refusal} → r ≡ Err e → unlike (Ok n) r ≡ None
unlike_none (File bytes) r is = ap (λ m. unlike (Ok (File bytes)) m) is
unlike_none (Dir es) r is = ap (λ m. unlike (Ok (Dir es)) m) is

-- ---- all checks

module _ {path to : List ℕ} {xs ys : List (List ℕ)} (b : AreBelow path to xs ys) (t : Tree) where
  -- the checks that look at the tree
  after_paths : refusal t (rename path to) ≡ first_of (no_node (at t path) ∷ no_dir (parent_at t to) ∷ into_self path to ∷ in_the_way t path to ∷ [])
  after_paths =
      let more = no_node (at t path) ∷ no_dir (parent_at t to) ∷ into_self path to ∷ in_the_way t path to ∷ [] in
      ap (λ a. first_of (a ∷ bad_path to ∷ is_root path IsRoot ∷ is_root to IsRoot ∷ more)) (bad_none path b.first)
      ∙ ap (λ a. first_of (a ∷ is_root path IsRoot ∷ is_root to IsRoot ∷ more)) (bad_none to b.second)
      ∙ ap (λ a. first_of (a ∷ is_root to IsRoot ∷ more)) (root_none path IsRoot b.first b.some)
      ∙ ap (λ a. first_of (a ∷ more)) (root_none to IsRoot b.second b.others)

  pub missing_refused : {why : Refusal} → first_of (bad_path path ∷ no_node (at t path) ∷ []) ≡ Some why → refusal t (rename path to) ≡ Some why
  missing_refused is =
      after_paths
      ∙ ap (λ a. first_of (a ∷ no_dir (parent_at t to) ∷ into_self path to ∷ in_the_way t path to ∷ [])) (single (no_node (at t path)) (sym (ap (λ a. first_of (a ∷ no_node (at t path) ∷ [])) (bad_none path b.first)) ∙ is))

  module _ {n : Tree} (there : at t path ≡ Ok n) where
    after_node : refusal t (rename path to) ≡ first_of (no_dir (parent_at t to) ∷ into_self path to ∷ in_the_way t path to ∷ [])
    after_node = after_paths ∙ ap (λ a. first_of (a ∷ no_dir (parent_at t to) ∷ into_self path to ∷ in_the_way t path to ∷ [])) (ok_node (at t path) there)

    dir_checks : first_of (no_dir (parent_at t to) ∷ []) ≡ place_refusal t to
    dir_checks = sym (ap (λ a. first_of (a ∷ no_dir (parent_at t to) ∷ [])) (bad_none to b.second))

    pub place_refused : {why : Refusal} → place_refusal t to ≡ Some why → refusal t (rename path to) ≡ Some why
    place_refused is = after_node ∙ ap (λ a. first_of (a ∷ into_self path to ∷ in_the_way t path to ∷ [])) (single (no_dir (parent_at t to)) (dir_checks ∙ is))

    module _ (dir : place_refusal t to ≡ None) where
      after_dir : refusal t (rename path to) ≡ first_of (into_self path to ∷ in_the_way t path to ∷ [])
      after_dir = after_node ∙ ap (λ a. first_of (a ∷ into_self path to ∷ in_the_way t path to ∷ [])) (first_none (no_dir (parent_at t to)) [] (dir_checks ∙ dir)).0

      self_is : into_self path to ≡ refuse_if (lies_below xs ys) IntoSelf
      self_is = ap (λ o. refuse_if (lies_below (unwrap_or o []) (names to)) IntoSelf) b.first ∙ ap (λ o. refuse_if (lies_below xs (unwrap_or o [])) IntoSelf) b.second

      pub self_refused : lies_below xs ys ≡ true → refusal t (rename path to) ≡ Some IntoSelf
      self_refused is = after_dir ∙ ap (λ a. first_of (a ∷ in_the_way t path to ∷ [])) (self_is ∙ ap (λ c. refuse_if c IntoSelf) is)

      module _ (apart : lies_below xs ys ≡ false) where
        after_self : refusal t (rename path to) ≡ first_of (in_the_way t path to ∷ [])
        after_self = after_dir ∙ ap (λ a. first_of (a ∷ in_the_way t path to ∷ [])) (self_is ∙ ap (λ c. refuse_if c IntoSelf) apart)

        pub same_passes : bytes_eq path to ≡ true → refusal t (rename path to) ≡ None
        same_passes same = after_self ∙ ap (λ c. first_of ((if c then None else unlike (at t path) (at t to)) ∷ [])) same

        module _ (differ : bytes_eq path to ≡ false) where
          after_same : refusal t (rename path to) ≡ first_of (unlike (Ok n) (at t to) ∷ [])
          after_same =
              after_self ∙ ap (λ c. first_of ((if c then None else unlike (at t path) (at t to)) ∷ [])) differ
              ∙ ap (λ m. first_of (unlike m (at t to) ∷ [])) there

          pub new_passes : {e : Refusal} → at t to ≡ Err e → refusal t (rename path to) ≡ None
          new_passes nothing = after_same ∙ ap (λ a. first_of (a ∷ [])) (unlike_none n (at t to) nothing)

          pub over_passes : {T : Type 0} (r : Result T Refusal) {m : Tree} → at t to ≡ Ok m → Passes r (unlike (Ok n) (Ok m)) → Passes r (refusal t (rename path to))
          over_passes (Ok x) {m} is p = after_same ∙ ap (λ a. first_of (unlike (Ok n) a ∷ [])) is ∙ ap (λ a. first_of (a ∷ [])) p
          over_passes (Err e) {m} is p = after_same ∙ ap (λ a. first_of (unlike (Ok n) a ∷ [])) is ∙ ap (λ a. first_of (a ∷ [])) p

-- a refusal of the paths comes first
pub paths_refused : (path to : List ℕ) (t : Tree) {why : Refusal} → first_of (bad_path path ∷ bad_path to ∷ is_root path IsRoot ∷ is_root to IsRoot ∷ []) ≡ Some why → refusal t (rename path to) ≡ Some why
paths_refused path to t {why = why} fails = four (no_node (at t path) ∷ no_dir (parent_at t to) ∷ into_self path to ∷ in_the_way t path to ∷ []) (bad_path path) (bad_path to) (is_root path IsRoot) (is_root to IsRoot) fails
  where
    four : (more : List (Option Refusal)) (a b c d : Option Refusal) → first_of (a ∷ b ∷ c ∷ d ∷ []) ≡ Some why → first_of (a ∷ b ∷ c ∷ d ∷ more) ≡ Some why
    four more (Some r) b c d is = is
    four more None (Some r) c d is = is
    four more None None (Some r) d is = is
    four more None None None (Some r) is = is
    four more None None None None is = absurd (cc)
