-- An entry leaves its slot for another: what is asked of the words, and what becomes of them and of the objects.
use Rattle.std.specs.Prelude.{◌≡◌, ◌⊎◌, ℕ, ◌+◌, ◌%◌, ◌<◌, ◌≤◌, true, List, slice_index}
use Rattle.ct_base.specs.Inode.{inode, part_bytes}
use Rattle.ct_base.specs.Objects.{Object}
use Rattle.ct_base.specs.Path.{is_name}
use Rattle.ct_base.specs.Rules.{Owns}
use Rattle.ct_base.specs.Slots.{IsSlot, slot_inode}
use Rattle.ct_base.specs.View.{view, inode_count}
use Rattle.ct_base.specs.Words.{Rewrites, place_at}
use Rattle.ct_dir.specs.Packed.{empty_words, slot_words}
use Rattle.ct_enter.specs.Entry.{IsSizeWord, RaisesSize}
use Rattle.ct_pm.specs.Device.{IsIn}
use Rattle.ct_state.specs.Edits.{attach, detach}
use Rattle.ct_tree.specs.Lands.{files}
use Rattle.ct_base.specs.Settled.{IsShut}
use Rattle.ct_base.specs.declared.layout.TheConstants.{DIRECTORY_KIND, ENTRY_BYTES, ENTRY_WORDS, MOST_INODES}
use Rattle.ct_tree.specs.Tree.{Tree}
use Rattle.ct_state.specs.Forest.{OneTree}
use Rattle.ct_commit.specs.Landing.{LandsAs}
use Rattle.ct_commit.specs.Rest.{IsAtRest}
use Rattle.ct_remove.specs.Erased.{IsGone, Removes}
use Rattle.ct_remove.specs.Removed.{removed}

-- the slot at o of directory d is empty, and that at s of directory k leads to inode i under a name
abbrev pub moved : (ℕ → Object) → ℕ → ℕ → ℕ → ℕ → ℕ → List ℕ → ℕ → Object
moved fs d o k s i name = attach (detach fs d o) k s i name

-- Sound words, an entry at offset o of directory d, and a place for a slot at s of directory k.
pub record CanMove (w : List ℕ) (d o k s i : ℕ) (name : List ℕ) : Type 0 where
  pub rest : IsAtRest w
  pub slot : IsSlot (files w d) o
  pub child : slot_inode (files w d) o ≡ i
  pub owns : Owns (view w) (inode_count w) k
  pub kind : (inode (view w) k).kind ≡ DIRECTORY_KIND
  pub aligned : s % ENTRY_BYTES ≡ 0
  pub low : s ≤ (inode (view w) k).size
  pub fits : s + ENTRY_BYTES ≤ part_bytes (inode (view w) k).level
  pub few : i ≤ MOST_INODES
  pub some : 1 ≤ i
  pub lawful : is_name name ≡ true

-- The words of a slot become 0, and then those of another slot are those of an entry.
pub record Relinks (old new : List ℕ) (from to i : ℕ) (name : List ℕ) : Type 0 where
  pub middle : List ℕ
  pub clear : Rewrites old middle from empty_words
  pub slot : Rewrites middle new to (slot_words i name)

-- and the size of the directory rises
pub record MovesEntry (old new : List ℕ) (d o k s i : ℕ) (name : List ℕ) : Type 0 where
  pub linked : List ℕ
  pub links : Relinks old linked ((inode (view old) d).base + o) ((inode (view old) k).base + s) i name
  pub size : RaisesSize linked new k (inode (view old) k).size (s + ENTRY_BYTES)

-- the device word is one of the two slots
abbrev pub IsLinkWord : List ℕ → ℕ → ℕ → ℕ → Type 0
IsLinkWord img from to word = IsIn (place_at img from) ENTRY_WORDS word ⊎ IsIn (place_at img to) ENTRY_WORDS word

-- or of the size
abbrev pub IsMoveWord : List ℕ → ℕ → ℕ → ℕ → ℕ → Type 0
IsMoveWord img from to k word = IsLinkWord img from to word ⊎ IsSizeWord img k word

-- An entry that may has moved.
pub record Moved (w new : List ℕ) (d o k s i : ℕ) (name : List ℕ) : Type 0 where
  pub can : CanMove w d o k s i name
  pub moves : MovesEntry w new d o k s i name
  pub small : (j : ℕ) → slice_index name j < 256

-- An entry is gone with object j, and another takes its slot.
pub record Replaces (old new : List ℕ) (d o k s i j : ℕ) (name : List ℕ) : Type 0 where
  pub middle : List ℕ
  pub removes : Removes old middle k s j
  pub shut : IsShut middle
  pub moves : MovesEntry middle new d o k s i name

-- the objects then
abbrev pub replaced : (ℕ → Object) → ℕ → ℕ → ℕ → ℕ → ℕ → ℕ → List ℕ → ℕ → Object
replaced fs d o k s i j name = moved (removed fs k s j) d o k s i name

-- the device word is one of what goes, or of the two slots
abbrev pub IsReplaceWord : List ℕ → ℕ → ℕ → ℕ → ℕ → ℕ → Type 0
IsReplaceWord img from base s j word = IsLinkWord img from (base + s) word ⊎ IsGone img base s j word

-- the objects stand for a tree
pub record HasTree (fs : ℕ → Object) : Type 0 where
  pub tree : Tree
  pub one : OneTree fs tree

-- the objects are the first or the others
abbrev pub TurnedOrNot : (ℕ → Object) → (ℕ → Object) → List ℕ → Type 0
TurnedOrNot fs gs image = LandsAs fs image ⊎ LandsAs gs image

-- an entry at offset o of directory d leads to inode i
pub record CanLeave (w : List ℕ) (d o i : ℕ) : Type 0 where
  pub slot : IsSlot (files w d) o
  pub child : slot_inode (files w d) o ≡ i
  pub few : i ≤ MOST_INODES
  pub some : 1 ≤ i
