-- What the calls that make an object do.
use Rattle.std.specs.Prelude.{◌≡◌, ◌≢◌, ℕ, true, List}
use Rattle.ct_base.specs.Named.{Leads}
use Rattle.ct_base.specs.Path.{is_name}
use Rattle.ct_base.specs.Slots.{IsSlot, slot_name}
use Rattle.ct_tree.specs.Lands.{files}
use Rattle.ct_tree.specs.Step.{Op, create, mkdir}
use Rattle.ct_tree.specs.Tree.{Tree}
use Rattle.ct_call.specs.Calls.{StandsFor}
use Rattle.ct_enter.specs.Entry.{with_node}
use Rattle.ct_find.specs.declared.kind.Kind.{Kind}
use Rattle.ct_find.specs.declared.kind.Kind.TheVariants.{File as file, Directory as directory}

-- the call that makes an object of a kind
abbrev pub make_op : Kind → List ℕ → Op
make_op file path = create path
make_op directory path = mkdir path

-- a name that no slot of the directory has
pub record IsFreshName (img : List ℕ) (dir : ℕ) (name : List ℕ) : Type 0 where
  pub lawful : is_name name ≡ true
  pub fresh : (k : ℕ) → IsSlot (files img dir) k → slot_name (files img dir) k ≢ name

-- a tree for which the old words stood has the empty object more
abbrev pub HasNode : List ℕ → List ℕ → ℕ → List ℕ → ℕ → Type 0
HasNode old new dir name kind = (xs : List (List ℕ)) (t : Tree) → StandsFor old t → Leads (files old) 1 xs dir → StandsFor new (with_node t xs name kind)
