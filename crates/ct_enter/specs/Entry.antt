-- A new entry of a directory: what is there before it, and what its record leaves.
use Rattle.std.specs.Prelude.{◌≡◌, ◌≢◌, ◌⊎◌, ℕ, ◌+◌, ◌*◌, ◌/◌, ◌%◌, ◌<◌, ◌≤◌, ◌==◌, if◌then◌else◌, true, List, [], ◌∷◌, ◌++◌}
use Rattle.ct_base.specs.Inode.{IsNumber, inode, part_bytes}
use Rattle.ct_base.specs.declared.inode.Inode.{Inode}
use Rattle.ct_base.specs.Named.{Leads}
use Rattle.ct_base.specs.Path.{is_name}
use Rattle.ct_base.specs.Rules.{Owns}
use Rattle.ct_base.specs.Slots.{IsSlot, slot_name}
use Rattle.ct_base.specs.View.{view, inode_count}
use Rattle.ct_base.specs.Walk.{word, page_at}
use Rattle.ct_base.specs.Words.{Rewrites, place_at}
use Rattle.ct_base.specs.declared.layout.TheConstants.{DIRECTORY_KIND, ENTRY_BYTES, ENTRY_WORDS, FILE_KIND, INODE_BYTES, PAGE_BYTES}
use Rattle.ct_dir.specs.Packed.{slot_words}
use Rattle.ct_inode.specs.Drafted.{inode_words}
use Rattle.ct_pm.specs.Device.{IsIn}
use Rattle.ct_tree.specs.Lands.{files}
use Rattle.ct_tree.specs.Resolve.{put}
use Rattle.ct_tree.specs.Tree.{Tree, File, Dir, none}
use Rattle.ct_call.specs.Calls.{StandsFor}
use Rattle.ct_call.specs.Placed.{empty_inode}
use Rattle.ct_commit.specs.Rest.{IsAtRest, KeepsTables}

-- inode number dir is f, a directory whose slot at the offset is empty and mapped, and no slot of it has the name
pub record IsSpot (img : List ℕ) (dir : ℕ) (f : Inode) (offset : ℕ) (name : List ℕ) : Type 0 where
  pub is : inode (view img) dir ≡ f
  pub kind : f.kind ≡ DIRECTORY_KIND
  pub owns : Owns (view img) (inode_count img) dir
  pub aligned : offset % ENTRY_BYTES ≡ 0
  pub low : offset ≤ f.size
  pub fits : offset + ENTRY_BYTES ≤ part_bytes f.level
  pub unused : IsSlot (files img dir) offset → ⊥
  pub lawful : is_name name ≡ true
  pub fresh : (k : ℕ) → IsSlot (files img dir) k → slot_name (files img dir) k ≢ name
  pub there : page_at img 4 ((f.base + offset) / PAGE_BYTES) ≢ 0

-- the inode is free and mapped
pub record IsFreeInode (img : List ℕ) (number : ℕ) : Type 0 where
  pub counted : IsNumber (inode_count img) number
  pub free : (inode (view img) number).kind ≡ 0
  pub there : page_at img 4 (INODE_BYTES * number / PAGE_BYTES) ≢ 0

-- an empty file by its kind, else an empty directory
abbrev pub empty_node : ℕ → Tree
empty_node kind = if kind == FILE_KIND then File [] else Dir none

-- the tree with an empty object under a name more than the way to its directory
abbrev pub with_node : Tree → List (List ℕ) → List ℕ → ℕ → Tree
with_node t xs name kind = put t (xs ++ (name ∷ [])) (empty_node kind)

-- the size of inode dir rises, where it is less than a number
abbrev pub RaisesSize : List ℕ → List ℕ → ℕ → ℕ → ℕ → Type 0
RaisesSize old new dir from to = ((to ≤ from) × (new ≡ old)) ⊎ ((from < to) × Rewrites old new (INODE_BYTES * dir + 8) (to ∷ []))

-- the words of a slot, of the directory's size and of an inode become those of a new entry, one after the other
pub record WritesEntry (old new : List ℕ) (dir : ℕ) (f : Inode) (offset : ℕ) (name : List ℕ) (number kind : ℕ) : Type 0 where
  pub named : List ℕ
  pub sized : List ℕ
  pub slot : Rewrites old named (f.base + offset) (slot_words number name)
  pub size : RaisesSize named sized dir f.size (offset + ENTRY_BYTES)
  pub object : Rewrites sized new (INODE_BYTES * number) (inode_words (empty_inode kind))

-- the words have the new entry: a tree for which they stood has the empty object more
pub record HasEntry (old new : List ℕ) (dir : ℕ) (name : List ℕ) (kind : ℕ) : Type 0 where
  pub rest : IsAtRest new
  pub keeps : KeepsTables old new
  pub stands : (xs : List (List ℕ)) (t : Tree) → StandsFor old t → Leads (files old) 1 xs dir → StandsFor new (with_node t xs name kind)

-- the device word is that of the size of inode dir
abbrev pub IsSizeWord : List ℕ → ℕ → ℕ → Type 0
IsSizeWord img dir word = IsIn (place_at img (INODE_BYTES * dir + 8)) 1 word

-- the device word is one of the slot, of the directory's size or of the inode
abbrev pub IsEntryWord : List ℕ → ℕ → Inode → ℕ → ℕ → ℕ → Type 0
IsEntryWord img dir f offset number word =
    IsIn (place_at img (f.base + offset)) ENTRY_WORDS word ⊎ (IsSizeWord img dir word ⊎ IsIn (place_at img (INODE_BYTES * number)) 8 word)

-- object i has the partition that it had
abbrev pub KeepsPart : List ℕ → List ℕ → ℕ → Type 0
KeepsPart old new i = ((inode (view new) i).base ≡ (inode (view old) i).base) × ((inode (view new) i).level ≡ (inode (view old) i).level)
