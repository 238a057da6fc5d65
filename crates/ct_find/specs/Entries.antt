-- The entry to which a path leads.
use Rattle.std.specs.Prelude.{◌≡◌, ◌≢◌, ◌⊎◌, ℕ, List, [], ◌∷◌, ◌++◌, Ok, Err, Some, None}
use Rattle.std.specs.declared.result.Result.{Result}
use Rattle.ct_base.specs.Named.{Leads}
use Rattle.ct_base.specs.Objects.{Object}
use Rattle.ct_base.specs.Path.{names_of}
use Rattle.ct_base.specs.Slots.{IsSlot, slot_inode}
use Rattle.ct_base.specs.declared.layout.TheConstants.{DIRECTORY_KIND}
use Rattle.ct_state.specs.Forest.{Entered}
use Rattle.ct_tree.specs.Checks.{at, bad_path, first_of, names, no_node}
use Rattle.ct_tree.specs.Lands.{files}
use Rattle.ct_tree.specs.Resolve.{last_name, parent}
use Rattle.ct_tree.specs.Stands.{Stands}
use Rattle.ct_tree.specs.Tree.{Tree}
use Rattle.ct_tree.specs.declared.call.Refusal.{Refusal}
use Rattle.ct_tree.specs.declared.call.Refusal.TheVariants.{IsDir, NotDir, NotEmpty}
use Rattle.ct_find.specs.declared.kind.Kind.{Kind}
use Rattle.ct_find.specs.declared.kind.Kind.TheVariants.{File as file, Directory as directory}
use Rattle.ct_find.specs.declared.entry.Entry.{Entry}

-- the path names an entry: its directory, its slot and its inode
pub record IsEntryAt (img path : List ℕ) (e : Entry) : Type 0 where
  pub good : names_of path ≢ None
  pub ends : names path ≡ parent (names path) ++ (last_name (names path) ∷ [])
  pub entered : Entered (files img) e.dir e.offset e.number (parent (names path)) (last_name (names path))

-- the path leads to a node of the tree, for which the entry's inode stands
pub record StandsAt (img path : List ℕ) (t : Tree) (i : ℕ) : Type 0 where
  pub node : Tree
  pub is : at t path ≡ Ok node
  pub stands : Stands (files img) i node

-- the path leads to an entry's node, or the tree's refusal says why not
abbrev pub EntryAnswers : List ℕ → List ℕ → Tree → Result Entry Refusal → Type 0
EntryAnswers img path t (Ok e) = StandsAt img path t e.number
EntryAnswers img path t (Err r) = first_of (bad_path path ∷ no_node (at t path) ∷ []) ≡ Some r

-- The slot at an offset of directory dir, where names lead, leads to an object that has no slots.
pub record IsLeaf (fs : ℕ → Object) (dir offset number : ℕ) : Type 0 where
  pub way : List (List ℕ)
  pub leads : Leads fs 1 way dir
  pub slot : IsSlot (fs dir) offset
  pub child : slot_inode (fs dir) offset ≡ number
  pub bare : (k : ℕ) → IsSlot (fs number) k → ⊥

-- an object that a call for a kind may remove, by what it is: no directory, or one without slots
abbrev pub IsFit : {T : Type 0} → Object → Kind → Result T Refusal → Type 0
IsFit f file (Ok x) = f.kind ≢ DIRECTORY_KIND
IsFit f file (Err r) = (f.kind ≡ DIRECTORY_KIND) × (r ≡ IsDir)
IsFit f directory (Ok x) = (f.kind ≡ DIRECTORY_KIND) × ((k : ℕ) → IsSlot f k → ⊥)
IsFit f directory (Err r) = ((f.kind ≢ DIRECTORY_KIND) × (r ≡ NotDir)) ⊎ ((f.kind ≡ DIRECTORY_KIND) × (o : ℕ) × IsSlot f o × (r ≡ NotEmpty))
