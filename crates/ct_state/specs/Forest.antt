-- Objects that stand for the tree of inode 1 and for at most one tree more: that of an orphan, which is live and has no
-- name. Where there is no orphan, 1 is in its place.
use Rattle.std.specs.Prelude.{◌≡◌, ◌≢◌, ◌⊎◌, ℕ, List, [], ◌∷◌}
use Rattle.ct_base.specs.declared.layout.TheConstants.{DIRECTORY_KIND}
use Rattle.ct_base.specs.Objects.{Object}
use Rattle.ct_base.specs.Slots.{IsSlot, Names, slot_inode, slot_name}
use Rattle.ct_base.specs.Named.{Named, Leads}
use Rattle.ct_base.specs.Rules.{AreEntries, AreNamesApart, IsNamedOnce}
use Rattle.ct_tree.specs.Tree.{Tree}
use Rattle.ct_tree.specs.Ordered.{IsTree}
use Rattle.ct_tree.specs.Stands.{Stands}

-- object c has the first of the names, its parent the next, and so on up to object r
unfoldable pub Up : (ℕ → Object) → ℕ → List (List ℕ) → ℕ → Type 0
Up fs r [] c = c ≡ r
Up fs r (x ∷ xs) c = (i : ℕ) × (s : Named (fs i) x) × (slot_inode (fs i) s.offset ≡ c) × Up fs r xs i

-- no slot names the object
abbrev pub IsTop : (ℕ → Object) → ℕ → Type 0
IsTop fs c = (i o : ℕ) → Names fs i o c → ⊥

-- the object is reached from object r
abbrev pub IsUnder : (ℕ → Object) → ℕ → ℕ → Type 0
IsUnder fs r c = (xs : List (List ℕ)) × Up fs r xs c

-- the rules on objects, with an orphan
pub record AreTrees (fs : ℕ → Object) (orphan : ℕ) : Type 0 where
  pub entries : AreEntries fs
  pub apart : AreNamesApart fs
  pub root : (fs 1).kind ≡ DIRECTORY_KIND
  pub alive : (fs orphan).kind ≢ 0
  pub top : IsTop fs 1
  pub free : IsTop fs orphan
  pub others : (c : ℕ) → (fs c).kind ≢ 0 → c ≢ 1 → c ≢ orphan → IsNamedOnce fs c
  pub reached : (c : ℕ) → (fs c).kind ≢ 0 → IsUnder fs 1 c ⊎ IsUnder fs orphan c

-- the objects stand for tree t, and the orphan for u; without an orphan both are the same
pub record Forest (fs : ℕ → Object) (orphan : ℕ) (t u : Tree) : Type 0 where
  pub are : AreTrees fs orphan
  pub tree : IsTree t
  pub stands : Stands fs 1 t
  pub orphan_tree : IsTree u
  pub orphan_stands : Stands fs orphan u

-- the objects meet the rules and stand for one tree
abbrev pub OneTree : (ℕ → Object) → Tree → Type 0
OneTree fs t = Forest fs 1 t t

-- the slot at o of directory d, where names lead, says that object i has the name x
pub record Entered (fs : ℕ → Object) (d o i : ℕ) (xs : List (List ℕ)) (x : List ℕ) : Type 0 where
  pub leads : Leads fs 1 xs d
  pub slot : IsSlot (fs d) o
  pub child : slot_inode (fs d) o ≡ i
  pub name : slot_name (fs d) o ≡ x
