-- From the names of a path to the path.
use Rattle.std.proofs.Common.{◌≡◌, ◌≢◌, ℕ, ◌≤◌, Bool, true, false, List, [], ◌∷◌, length, Result, Err, Some, None, Bor, refl, sym, ap, subst, arith}
use Rattle.std.specs.Prelude.{nat_le, ◌==◌, if◌then◌else◌, unwrap_or}
use Rattle.std.specs.List.{list_all}
use Rattle.std.specs.declared.option.Option.{Option}
use Rattle.std.proofs.lemmas.Bool.{eqb-true}
use Rattle.std.proofs.lemmas.List.Splits.{length-slice_split}
use Rattle.ct_base.specs.Objects.{Object}
use Rattle.ct_base.specs.Path.{is_name, names_of, names_from, if_names, parts}
use Rattle.ct_tree.specs.Checks.{names}
use Rattle.ct_path.specs.declared.fault.PathFault.{PathFault}
use Rattle.ct_path.specs.declared.fault.PathFault.TheVariants.{BadPath}
use Rattle.ct_path.specs.Resolves.{Follows, Resolves, FindsParent, Splits}

-- a path has the names that were read from it
read_names : (path : List ℕ) (xs : List (List ℕ)) → names_of path ≡ Some xs → xs ≡ names path
read_names path xs is = sym (ap (λ o. unwrap_or o []) is)

pub resolved_by : {fs : ℕ → Object} (path : List ℕ) (xs : List (List ℕ)) (answer : Result ℕ PathFault) → names_of path ≡ Some xs → answer ≢ Err BadPath → Follows fs xs answer → Resolves fs path answer
resolved_by {fs = fs} path xs answer is lawful follows = record {
  bad = (λ bad. absurd (lawful bad), λ no_path. absurd (cc));
  follows = λ some. subst (λ ys. Follows fs ys answer) (read_names path xs is) follows;
}

pub split_by : {fs : ℕ → Object} (path : List ℕ) (xs : List (List ℕ)) (answer : Result (ℕ × Bor (List ℕ)) PathFault) → names_of path ≡ Some xs → answer ≢ Err BadPath → FindsParent fs xs answer → Splits fs path answer
split_by {fs = fs} path xs answer is lawful finds = record {
  bad = (λ bad. absurd (lawful bad), λ no_path. absurd (cc));
  finds = λ some. subst (λ ys. FindsParent fs ys answer) (read_names path xs is) finds;
}

-- there are names, where there is a path
HasNames : Option (List (List ℕ)) → Type 0
HasNames None = Unit {0}
HasNames (Some []) = ⊥
HasNames (Some (x ∷ xs)) = Unit {0}

either_has : (b : Bool) (o : Option (List (List ℕ))) → (b ≡ true → HasNames o) → HasNames (if b then o else None)
unfolding HasNames
either_has true o has = has refl
either_has false o has = tt

some_has : (xs : List (List ℕ)) → 1 ≤ length xs → HasNames (Some xs)
unfolding HasNames
some_has [] more = absurd (omega (arith, more))
some_has (x ∷ xs) more = tt

from_has : (path : List ℕ) → path ≢ 47 ∷ [] → HasNames (names_from path)
unfolding HasNames
from_has [] below = tt
from_has (x ∷ []) below = either_has (x == 47) (Some []) (λ slash. below (ap (λ k. k ∷ []) (eqb-true x 47 slash)))
from_has (x ∷ y ∷ ys) below =
    let text = y ∷ ys in
    let some : 1 ≤ length (parts text) = omega (arith, length-slice_split (λ b. b == 47) text) in
    either_has (x == 47) (if_names (parts text)) (λ slash. either_has (list_all is_name (parts text)) (Some (parts text)) (λ all. some_has (parts text) some))

no_names_but : (o : Option (List (List ℕ))) → HasNames o → o ≡ Some [] → ⊥
unfolding HasNames
no_names_but None has is = absurd (cc)
no_names_but (Some []) has is = has
no_names_but (Some (x ∷ xs)) has is = absurd (cc)

-- a path other than / has names
pub has_names : (path : List ℕ) → path ≢ 47 ∷ [] → names_of path ≢ Some []
has_names path below is =
    no_names_but (names_of path) (either_has (nat_le (length path) 4096) (names_from path) (λ short. from_has path below)) is
