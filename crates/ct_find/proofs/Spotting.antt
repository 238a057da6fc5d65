-- What stands against an entry at a path, and against a new one, once its directory was looked at.
use Rattle.std.proofs.Common.{◌≡◌, ◌≢◌, ℕ, List, [], ◌∷◌, Result, Ok, Err, Some, None, refl, sym, ap, ◌∙◌}
use Rattle.std.specs.Prelude.{is_none, is_some, unwrap_or}
use Rattle.std.specs.Option.{ok_or}
use Rattle.std.specs.declared.option.Option.{Option}
use Rattle.ct_base.specs.Path.{names_of}
use Rattle.ct_path.proofs.Answered.{has_names}
use Rattle.ct_tree.proofs.Steps.{first_none}
use Rattle.ct_tree.specs.Checks.{at, bad_path, exists, exists_in, first_of, has_none, no_dir, no_node, parent_at, refuse_if}
use Rattle.ct_tree.specs.Entries.{lookup}
use Rattle.ct_tree.specs.Resolve.{and_then, child, last_name, parent, resolve}
use Rattle.ct_tree.specs.Step.{make_refusal}
use Rattle.ct_tree.specs.Tree.{Tree, File, Dir}
use Rattle.ct_tree.specs.declared.call.Refusal.{Refusal}
use Rattle.ct_tree.specs.declared.call.Refusal.TheVariants.{BadPath as bad, Exists, NotFound}
use Rattle.ct_find.proofs.Finding.{resolve_last}
use Rattle.ct_find.specs.Places.{place_refusal}

-- ---- one step from the parent

-- a parent that is no directory decides
no_child : (r : Result Tree Refusal) (x : List ℕ) {why : Refusal} → first_of (no_dir r ∷ []) ≡ Some why → first_of (no_node (and_then r (λ n. child n x)) ∷ []) ≡ Some why
no_child (Ok (File bytes)) x is = is
no_child (Ok (Dir es)) x is = absurd (cc)
no_child (Err e) x is = is

-- the name is there exactly where a node is
abbrev exists_by : Result Tree Refusal → Option Refusal
exists_by (Ok n) = Some Exists
exists_by (Err e) = None

exists_child : (r : Result Tree Refusal) (x : List ℕ) → exists_in r x ≡ exists_by (and_then r (λ n. child n x))
exists_child (Err e) x = refl
exists_child (Ok (File bytes)) x = refl
exists_child (Ok (Dir es)) x = there (lookup x es)
  where
    there : (o : Option Tree) → refuse_if (is_some o) Exists ≡ exists_by (ok_or o NotFound)
    there None = refl
    there (Some n) = refl

-- ---- one check more

pub one_more : (p a b : Option Refusal) {why : Refusal} → first_of (p ∷ a ∷ []) ≡ Some why → first_of (p ∷ a ∷ b ∷ []) ≡ Some why
one_more (Some r) a b is = is
one_more None (Some r) b is = is
one_more None None b is = absurd (cc)

last : (p a b : Option Refusal) → first_of (p ∷ a ∷ []) ≡ None → first_of (p ∷ a ∷ b ∷ []) ≡ b
last (Some r) a b is = absurd (cc)
last None (Some r) b is = absurd (cc)
last None None None is = refl
last None None (Some r) is = refl

module _ (path : List ℕ) (below : path ≢ 47 ∷ []) (t : Tree) where
  -- the root is not meant
  make_is : make_refusal t path ≡ first_of (bad_path path ∷ no_dir (parent_at t path) ∷ exists t path ∷ [])
  make_is = by (names_of path) (has_names path below) (no_dir (parent_at t path)) (exists t path)
    where
      by : (o : Option (List (List ℕ))) → o ≢ Some [] → (a b : Option Refusal) → first_of (refuse_if (is_none o) bad ∷ refuse_if (has_none (unwrap_or o [])) Exists ∷ a ∷ b ∷ []) ≡ first_of (refuse_if (is_none o) bad ∷ a ∷ b ∷ [])
      by None some a b = refl
      by (Some []) some a b = absurd (some refl)
      by (Some (x ∷ xs)) some a b = refl

  -- nothing can be there
  pub no_entry : {why : Refusal} → place_refusal t path ≡ Some why → first_of (bad_path path ∷ no_node (at t path) ∷ []) ≡ Some why
  no_entry {why} = by (names_of path) (has_names path below)
    where
      by : (o : Option (List (List ℕ))) → o ≢ Some [] → first_of (refuse_if (is_none o) bad ∷ no_dir (resolve t (parent (unwrap_or o []))) ∷ []) ≡ Some why
          → first_of (refuse_if (is_none o) bad ∷ no_node (resolve t (unwrap_or o [])) ∷ []) ≡ Some why
      by None some is = is
      by (Some []) some is = absurd (some refl)
      by (Some (x ∷ xs)) some is = ap (λ r. first_of (no_node r ∷ [])) (resolve_last t x xs) ∙ no_child (resolve t (parent (x ∷ xs))) (last_name (x ∷ xs)) is

  pub no_spot : {why : Refusal} → place_refusal t path ≡ Some why → make_refusal t path ≡ Some why
  no_spot is = make_is ∙ one_more (bad_path path) (no_dir (parent_at t path)) (exists t path) is

  -- the directory is there
  module _ (passes : place_refusal t path ≡ None) where
    pub entry_gone : {why : Refusal} → at t path ≡ Err why → first_of (bad_path path ∷ no_node (at t path) ∷ []) ≡ Some why
    entry_gone gone = ap (λ q. first_of (q ∷ no_node (at t path) ∷ [])) (first_none (bad_path path) (no_dir (parent_at t path) ∷ []) passes).0 ∙ ap (λ r. first_of (no_node r ∷ [])) gone

    make_by : make_refusal t path ≡ exists_by (at t path)
    make_by = make_is ∙ last (bad_path path) (no_dir (parent_at t path)) (exists t path) passes ∙ by (names_of path) (has_names path below) passes
      where
        by : (o : Option (List (List ℕ))) → o ≢ Some [] → first_of (refuse_if (is_none o) bad ∷ no_dir (resolve t (parent (unwrap_or o []))) ∷ []) ≡ None
            → exists_in (resolve t (parent (unwrap_or o []))) (last_name (unwrap_or o [])) ≡ exists_by (resolve t (unwrap_or o []))
        by None some is = absurd (cc)
        by (Some []) some is = absurd (some refl)
        by (Some (x ∷ xs)) some is = exists_child (resolve t (parent (x ∷ xs))) (last_name (x ∷ xs)) ∙ sym (ap exists_by (resolve_last t x xs))

    pub spot_taken : {n : Tree} → at t path ≡ Ok n → make_refusal t path ≡ Some Exists
    spot_taken there = make_by ∙ ap exists_by there

    pub spot_free : {why : Refusal} → at t path ≡ Err why → make_refusal t path ≡ None
    spot_free gone = make_by ∙ ap exists_by gone
