-- What a path leads to on an image, and why it leads nowhere: as in each tree that the image stands for.
use Rattle.std.specs.Prelude.{◌≡◌, ◌≢◌, ◌↔◌, ℕ, List, Ok, Err, Some, None, IfOk, IsOkAnd, true}
use Rattle.std.specs.Borrow.{Bor}
use Rattle.std.specs.declared.result.Result.{Result}
use Rattle.ct_base.specs.declared.layout.TheConstants.{DIRECTORY_KIND}
use Rattle.ct_base.specs.Objects.{Object}
use Rattle.ct_base.specs.Named.{Leads}
use Rattle.ct_base.specs.Path.{is_name, names_of}
use Rattle.ct_tree.specs.Tree.{Tree, Dir, Entries}
use Rattle.ct_tree.specs.Ordered.{IsTree}
use Rattle.ct_tree.specs.Stands.{Stands}
use Rattle.ct_tree.specs.Resolve.{resolve, parent, last_name}
use Rattle.ct_tree.specs.Checks.{names, no_dir}
use Rattle.ct_tree.specs.declared.call.Refusal.{Refusal}
use Rattle.ct_tree.specs.declared.call.Refusal.TheVariants.{BadPath as bad_path, NotFound as not_found, NotDir as not_dir}
use Rattle.ct_path.specs.declared.fault.PathFault.{PathFault}
use Rattle.ct_path.specs.declared.fault.PathFault.TheVariants.{BadPath, NotFound, NotDir}

-- the refusal of a call that a fault of its path stops
abbrev pub refusal_of : PathFault → Refusal
refusal_of BadPath = bad_path
refusal_of NotFound = not_found
refusal_of NotDir = not_dir

-- the object stands for what is found in a tree, and a fault is the tree's refusal
abbrev pub IsAnswer : (ℕ → Object) → Result Tree Refusal → Result ℕ PathFault → Type 0
IsAnswer fs found (Ok i) = (n : Tree) × (found ≡ Ok n) × Stands fs i n
IsAnswer fs found (Err fault) = found ≡ Err (refusal_of fault)

-- where the names lead from inode 1: to the object alone, or to none
pub record Follows (fs : ℕ → Object) (xs : List (List ℕ)) (answer : Result ℕ PathFault) : Type 0 where
  pub leads : IfOk answer (λ i. Leads fs 1 xs i)
  pub only : (i : ℕ) → Leads fs 1 xs i → answer ≡ Ok i
  -- in each tree that the objects stand for the names lead to the same
  pub tree : (t : Tree) → IsTree t → Stands fs 1 t → IsAnswer fs (resolve t xs) answer

-- what a path leads to
pub record Resolves (fs : ℕ → Object) (path : List ℕ) (answer : Result ℕ PathFault) : Type 0 where
  -- the path is none exactly where the answer says so
  pub bad : (answer ≡ Err BadPath) ↔ (names_of path ≡ None)
  -- and else its names decide
  pub follows : names_of path ≢ None → Follows fs (names path) answer

-- a parent is a directory in the tree too; one that is not there, or is a file, is the tree's refusal
abbrev pub IsParent : (ℕ → Object) → Result Tree Refusal → Result (ℕ × Bor (List ℕ)) PathFault → Type 0
IsParent fs found (Ok split) = (es : Entries) × (found ≡ Ok (Dir es)) × Stands fs split.0 (Dir es)
IsParent fs found (Err fault) = no_dir found ≡ Some (refusal_of fault)

-- where all names but the last lead from inode 1, and the last
pub record FindsParent (fs : ℕ → Object) (xs : List (List ℕ)) (answer : Result (ℕ × Bor (List ℕ)) PathFault) : Type 0 where
  pub leads : IfOk answer (λ split. Leads fs 1 (parent xs) split.0)
  pub dir : IfOk answer (λ split. (fs split.0).kind ≡ DIRECTORY_KIND)
  pub name : IfOk answer (λ split. split.1.now ≡ last_name xs)
  pub valid : IfOk answer (λ split. is_name split.1.now ≡ true)
  pub only : (i : ℕ) → Leads fs 1 (parent xs) i → (fs i).kind ≡ DIRECTORY_KIND → IsOkAnd answer (λ split. split.0 ≡ i)
  pub tree : (t : Tree) → IsTree t → Stands fs 1 t → IsParent fs (resolve t (parent xs)) answer

-- the parent of a path, and its last name
pub record Splits (fs : ℕ → Object) (path : List ℕ) (answer : Result (ℕ × Bor (List ℕ)) PathFault) : Type 0 where
  pub bad : (answer ≡ Err BadPath) ↔ (names_of path ≡ None)
  pub finds : names_of path ≢ None → FindsParent fs (names path) answer
