-- Where a new entry goes.
use Rattle.std.specs.Prelude.{◌≡◌, ◌≢◌, ℕ, ◌%◌, ◌≤◌, true, List, Ok, Err, Some, None}
use Rattle.std.specs.declared.result.Result.{Result}
use Rattle.ct_base.specs.declared.inode.Inode.{Inode}
use Rattle.ct_base.specs.Inode.{inode, IsLive}
use Rattle.ct_base.specs.Path.{is_name}
use Rattle.ct_base.specs.Slots.{IsSlot, free_slot, slot_name}
use Rattle.ct_base.specs.View.{view, inode_count}
use Rattle.ct_base.specs.declared.layout.TheConstants.{DIRECTORY_KIND, ENTRY_BYTES}
use Rattle.ct_tree.specs.Checks.{names}
use Rattle.ct_tree.specs.Lands.{files}
use Rattle.ct_tree.specs.Need.{IsParentAt}
use Rattle.ct_tree.specs.Resolve.{last_name}
use Rattle.ct_tree.specs.Step.{make_refusal}
use Rattle.ct_tree.specs.Tree.{Tree}
use Rattle.ct_tree.specs.declared.call.Refusal.{Refusal}

-- a new entry of directory dir, whose inode is f, goes to the offset: its first empty slot, or its end where all are full
pub record IsNextSlot (img : List ℕ) (dir : ℕ) (f : Inode) (offset : ℕ) : Type 0 where
  pub live : IsLive (view img) (inode_count img) dir
  pub is : inode (view img) dir ≡ f
  pub kind : f.kind ≡ DIRECTORY_KIND
  pub aligned : offset % ENTRY_BYTES ≡ 0
  pub within : offset ≤ f.size
  pub first : offset ≡ free_slot (files img dir)

-- the path names an entry that directory dir may get: it has a name that no slot of it has, and goes to the next slot
pub record IsNewName (img : List ℕ) (path : List ℕ) (dir : ℕ) (f : Inode) (offset : ℕ) (name : List ℕ) : Type 0 where
  pub parent : IsParentAt img path dir
  pub last : name ≡ last_name (names path)
  pub lawful : is_name name ≡ true
  pub next : IsNextSlot img dir f offset
  pub fresh : (k : ℕ) → IsSlot (files img dir) k → slot_name (files img dir) k ≢ name

-- nothing stands against a new node at the path, or the tree's refusal does
abbrev pub SpotAnswers : {S : Type 0} → Tree → List ℕ → Result S Refusal → Type 0
SpotAnswers t path (Ok spot) = make_refusal t path ≡ None
SpotAnswers t path (Err r) = make_refusal t path ≡ Some r
