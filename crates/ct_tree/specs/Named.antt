-- What is known of the names that were read from a path.
use Rattle.std.specs.Prelude.{◌≡◌, ℕ, List, Ok, Err, Some, None, true}
use Rattle.std.specs.Borrow.{Bor}
use Rattle.std.specs.List.{list_all}
use Rattle.std.specs.declared.vec.Vec.{Vec}
use Rattle.std.specs.declared.result.Result.{Result}
use Rattle.ct_base.specs.Path.{is_name, texts}
use Rattle.ct_tree.specs.Checks.{names, bad_path}
use Rattle.ct_tree.specs.declared.stop.Stop.{Stop}
use Rattle.ct_tree.specs.declared.stop.Stop.TheVariants.{Refused, NoMemory}

pub record AreNames (path : List ℕ) (found : List (List ℕ)) : Type 0 where
  pub path_is : bad_path path ≡ None
  pub same : names path ≡ found
  pub valid : list_all is_name found ≡ true

abbrev pub ReadsNames : {Z : Type 0} → List ℕ → Result (Vec (Bor (List ℕ)) Z) Stop → Type 0
ReadsNames path (Ok found) = AreNames path (texts found.items)
ReadsNames path (Err (Refused r)) = bad_path path ≡ Some r
ReadsNames path (Err NoMemory) = Unit {0}
