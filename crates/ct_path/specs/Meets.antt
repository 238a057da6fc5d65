-- What one name leads to, and how far a walk along names has come.
use Rattle.std.specs.Prelude.{◌≡◌, ◌≢◌, ℕ, List, Ok, Err}
use Rattle.std.specs.declared.result.Result.{Result}
use Rattle.ct_base.specs.declared.layout.TheConstants.{DIRECTORY_KIND}
use Rattle.ct_base.specs.Objects.{Object}
use Rattle.ct_base.specs.Slots.{slot_inode}
use Rattle.ct_base.specs.Named.{Named, Leads}
use Rattle.ct_tree.specs.Tree.{Tree}
use Rattle.ct_tree.specs.Ordered.{IsTree}
use Rattle.ct_tree.specs.Stands.{Stands}
use Rattle.ct_tree.specs.Resolve.{resolve}
use Rattle.ct_path.specs.declared.fault.PathFault.{PathFault}
use Rattle.ct_path.specs.declared.fault.PathFault.TheVariants.{BadPath, NotFound, NotDir}

-- a slot of the object has the name and leads to the answer, or none has it, or the object is no directory
abbrev pub Meets : (ℕ → Object) → ℕ → List ℕ → Result ℕ PathFault → Type 0
Meets fs i x (Ok c) = ((fs i).kind ≡ DIRECTORY_KIND) × (s : Named (fs i) x) × (slot_inode (fs i) s.offset ≡ c)
Meets fs i x (Err BadPath) = ⊥
Meets fs i x (Err NotFound) = ((fs i).kind ≡ DIRECTORY_KIND) × (Named (fs i) x → ⊥)
Meets fs i x (Err NotDir) = (fs i).kind ≢ DIRECTORY_KIND

-- the node of a tree that the names that are left go on from
pub record OnTheWay (fs : ℕ → Object) (t : Tree) (all left : List (List ℕ)) (i : ℕ) : Type 0 where
  pub node : Tree
  pub is_tree : IsTree node
  pub stands : Stands fs i node
  pub same : resolve t all ≡ resolve node left

-- all the names lead from inode 1 to where those that are left lead from object i
pub record Ahead (fs : ℕ → Object) (all left : List (List ℕ)) (i : ℕ) : Type 0 where
  pub live : (fs i).kind ≢ 0
  pub there : (c : ℕ) → Leads fs i left c → Leads fs 1 all c
  pub back : (c : ℕ) → Leads fs 1 all c → Leads fs i left c
  pub tree : (t : Tree) → IsTree t → Stands fs 1 t → OnTheWay fs t all left i
