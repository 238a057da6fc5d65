-- The file to which a path leads, and the checks of two paths that are to lead to files.
use Rattle.std.specs.Prelude.{◌≡◌, ℕ, List, [], ◌∷◌, Ok, Err, Some, None}
use Rattle.std.specs.declared.option.Option.{Option}
use Rattle.std.specs.declared.result.Result.{Result}
use Rattle.ct_base.specs.declared.inode.Inode.{Inode}
use Rattle.ct_base.specs.Inode.{IsLive, inode}
use Rattle.ct_base.specs.View.{view, inode_count}
use Rattle.ct_base.specs.declared.layout.TheConstants.{FILE_KIND}
use Rattle.ct_tree.specs.Checks.{at, bad_path, first_of, is_dir, no_file, no_node}
use Rattle.ct_tree.specs.Lands.{files}
use Rattle.ct_tree.specs.Need.{IsAt}
use Rattle.ct_tree.specs.Stands.{IsFile}
use Rattle.ct_tree.specs.Tree.{Tree, File}
use Rattle.ct_tree.specs.declared.call.Refusal.{Refusal}
use Rattle.ct_commit.specs.Rest.{StandsFor}

-- the path leads to file i, whose inode is f, and to its bytes in each tree for which the image stands
pub record IsFileAt (img path : List ℕ) (i : ℕ) (f : Inode) : Type 0 where
  pub live : IsLive (view img) (inode_count img) i
  pub is : inode (view img) i ≡ f
  pub kind : f.kind ≡ FILE_KIND
  pub leads : IsAt img path i
  pub valid : bad_path path ≡ None
  pub node : (t : Tree) → StandsFor img t → (bytes : List ℕ) × (at t path ≡ Ok (File bytes)) × IsFile (files img i) bytes

-- the path leads to no file of the tree, for this reason
abbrev pub IsNoFile : Tree → List ℕ → Refusal → Type 0
IsNoFile t path r = first_of (bad_path path ∷ no_file (at t path) ∷ []) ≡ Some r

-- the file to which the path leads, by its number and its inode, or why it leads to none
abbrev pub FindsFile : List ℕ → List ℕ → Result (ℕ × Inode) Refusal → Type 0
FindsFile img path (Ok found) = IsFileAt img path found.0 found.1
FindsFile img path (Err r) = (t : Tree) → StandsFor img t → IsNoFile t path r

-- the checks of two paths, and more
abbrev pub path_checks : Tree → List ℕ → List ℕ → List (Option Refusal) → Option Refusal
path_checks t path other more =
    first_of (bad_path path ∷ bad_path other ∷ no_node (at t path) ∷ no_node (at t other) ∷ is_dir (at t path) ∷ is_dir (at t other) ∷ more)
