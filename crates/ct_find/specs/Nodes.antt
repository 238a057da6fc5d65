-- The object to which a path leads.
use Rattle.std.specs.Prelude.{◌≡◌, ◌⊎◌, ℕ, List, Ok, Err, Some, None}
use Rattle.std.specs.declared.result.Result.{Result}
use Rattle.ct_base.specs.declared.inode.Inode.{Inode}
use Rattle.ct_base.specs.Inode.{IsLive, inode}
use Rattle.ct_base.specs.View.{view, inode_count}
use Rattle.ct_tree.specs.Checks.{at, bad_path}
use Rattle.ct_tree.specs.Need.{IsAt}
use Rattle.ct_tree.specs.Tree.{Tree}
use Rattle.ct_tree.specs.declared.call.Refusal.{Refusal}
use Rattle.ct_commit.specs.Rest.{StandsFor}
use Rattle.ct_find.specs.Entries.{StandsAt}

-- the path leads to object i, whose inode is f, and in each tree for which the image stands to a node for which the object does
pub record IsNodeAt (img path : List ℕ) (i : ℕ) (f : Inode) : Type 0 where
  pub live : IsLive (view img) (inode_count img) i
  pub is : inode (view img) i ≡ f
  pub leads : IsAt img path i
  pub valid : bad_path path ≡ None
  pub node : (t : Tree) → StandsFor img t → StandsAt img path t i

-- the path leads nowhere in the tree, for this reason
abbrev pub LeadsNowhere : Tree → List ℕ → Refusal → Type 0
LeadsNowhere t path r = (bad_path path ≡ Some r) ⊎ ((bad_path path ≡ None) × (at t path ≡ Err r))

-- the object to which the path leads, by its number and its inode, or why the path leads nowhere
abbrev pub FindsNode : List ℕ → List ℕ → Result (ℕ × Inode) Refusal → Type 0
FindsNode img path (Ok found) = IsNodeAt img path found.0 found.1
FindsNode img path (Err r) = (t : Tree) → StandsFor img t → LeadsNowhere t path r
