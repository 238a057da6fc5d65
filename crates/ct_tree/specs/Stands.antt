-- The tree that objects stand for.
use Rattle.std.specs.Prelude.{◌≡◌, ℕ, ◌<◌, ◌⊎◌, List, length, slice_index}
use Rattle.ct_base.specs.Objects.{Object}
use Rattle.ct_base.specs.Slots.{IsSlot, slot_inode, slot_name}
use Rattle.ct_base.specs.Named.{Named}
use Rattle.ct_base.specs.declared.layout.TheConstants.{DIRECTORY_KIND, FILE_KIND}
use Rattle.ct_tree.specs.Tree.{Tree, File, Dir, Entries, none, entry}

-- one of the entries has the name
abbrev pub HasName : List ℕ → Entries → Type 0
HasName x none = ⊥
HasName x (entry y node rest) = (x ≡ y) ⊎ HasName x rest

pub record IsFile (f : Object) (bytes : List ℕ) : Type 0 where
  pub kind : f.kind ≡ FILE_KIND
  pub size : f.size ≡ length bytes
  pub all : (k : ℕ) → k < length bytes → f.at k ≡ slice_index bytes k

-- each name in the directory is one of the entries'
pub record IsDir (f : Object) (es : Entries) : Type 0 where
  pub kind : f.kind ≡ DIRECTORY_KIND
  pub names : (o : ℕ) → IsSlot f o → HasName (slot_name f o) es

abbrev mutual
  -- object i stands for the tree
  pub Stands : (ℕ → Object) → ℕ → Tree → Type 0
  Stands fs i (File bytes) = IsFile (fs i) bytes
  Stands fs i (Dir es) = IsDir (fs i) es × StandIn fs (fs i) es

  -- each of the entries stands where a slot of the directory leads
  pub StandIn : (ℕ → Object) → Object → Entries → Type 0
  StandIn fs f none = Unit {0}
  StandIn fs f (entry name node rest) = ((s : Named f name) × Stands fs (slot_inode f s.offset) node) × StandIn fs f rest
