-- Which pages are free, and which lie under files.
use Rattle.std.specs.Prelude.{◌≡◌, ◌≢◌, ℕ, ◌<◌, ◌≤◌, ◌↔◌, List, [], ◌∷◌, length, Contains}
use Rattle.ct_base.specs.Walk.{page_at, page_count, walk}
use Rattle.ct_base.specs.View.{view, inode_count}
use Rattle.ct_base.specs.Inode.{IsIn, inode}
use Rattle.ct_base.specs.Rules.{IsSeen, Owns, part_of}
use Rattle.ct_base.specs.declared.layout.TheConstants.{FIRST_PAGE}

-- the page is reached by index steps from a root slot other than 2 to 9
pub record IsInUse (img : List ℕ) (page : ℕ) : Type 0 where
  pub depth : ℕ
  pub number : ℕ
  pub from : 1 ≤ depth
  pub to : depth ≤ 4
  pub seen : IsSeen depth number
  pub is : page_at img depth number ≡ page

-- each number of the list is less than the next
abbrev pub IsRising : List ℕ → Type 0
IsRising [] = Unit {0}
IsRising (p ∷ ps) = ((q : ℕ) → Contains ps q → p < q) × IsRising ps

-- the page may be taken: it is one of pages 34 to the page count less 1, and not in use
pub record IsFreePage (img : List ℕ) (page : ℕ) : Type 0 where
  pub from : FIRST_PAGE ≤ page
  pub to : page < page_count img
  pub free : IsInUse img page → ⊥

-- the list has the free pages of the image, in rising order
pub record AreFree (img : List ℕ) (pages : List ℕ) : Type 0 where
  pub rising : IsRising pages
  pub exact : (page : ℕ) → Contains pages page ↔ IsFreePage img page

-- so many pages of the image are free
pub record HasFreePages (img : List ℕ) (count : ℕ) : Type 0 where
  pub pages : List ℕ
  pub are : AreFree img pages
  pub many : length pages ≡ count

-- the page lies under a live file: one of its addresses is mapped to it. Page 0 is none: it stands for no page.
pub record IsFilePage (img : List ℕ) (page : ℕ) : Type 0 where
  pub file : ℕ
  pub address : ℕ
  pub owns : Owns (view img) (inode_count img) file
  pub kind : (inode (view img) file).kind ≡ 1
  pub inside : IsIn (part_of (view img) file) address
  pub is : walk img address ≡ page
  pub some : page ≢ 0
