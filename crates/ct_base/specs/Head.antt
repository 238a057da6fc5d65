-- The rules on the superblock and the gates, which are read on an image as it is.
use Rattle.std.specs.Prelude.{◌≡◌, ℕ, ◌*◌, ◌<◌, ◌≤◌, List, length, slice_index}
use Rattle.ct_base.specs.Settled.{HaveTargets, IsRecord}
use Rattle.ct_base.specs.View.{inode_count}
use Rattle.ct_base.specs.Walk.{word, page_count}
use Rattle.ct_base.specs.declared.layout.TheConstants.{LEAST_INODES, LEAST_PAGES, LONG_GATE, LONG_PAIRS, MAGIC, MOST_INODES, MOST_LONG_PAIRS, MOST_PAGES, MOST_SHORT_PAIRS, PAGE_WORDS, SHORT_GATE, SHORT_PAIRS, VERSION}

-- the rules by name, and their numbers
pub data HeadRule : Type 0 where
  size : HeadRule
  magic : HeadRule
  version : HeadRule
  count : HeadRule
  inodes : HeadRule
  spare : HeadRule
  gates : HeadRule
  targets : HeadRule

abbrev pub head_number : HeadRule → ℕ
head_number size = 0
head_number magic = 1
head_number version = 2
head_number count = 3
head_number inodes = 4
head_number spare = 5
head_number gates = 6
head_number targets = 7

-- what holds where the rule does not fail
abbrev pub HeadHolds : List ℕ → HeadRule → Type 0
HeadHolds img size = (LEAST_PAGES * PAGE_WORDS ≤ length img) × (length img ≤ MOST_PAGES * PAGE_WORDS)
HeadHolds img magic = word img 0 ≡ MAGIC
HeadHolds img version = word img 1 ≡ VERSION
HeadHolds img count = (LEAST_PAGES ≤ page_count img) × (PAGE_WORDS * page_count img ≤ length img)
HeadHolds img inodes = (LEAST_INODES ≤ inode_count img) × (inode_count img ≤ MOST_INODES)
HeadHolds img spare = (w : ℕ) → 4 ≤ w → w < PAGE_WORDS → word img w ≡ 0
HeadHolds img gates = (slice_index img LONG_GATE ≤ MOST_LONG_PAIRS) × (slice_index img SHORT_GATE ≤ MOST_SHORT_PAIRS) × (0 < slice_index img LONG_GATE → slice_index img SHORT_GATE ≡ 0)
HeadHolds img targets = HaveTargets LONG_PAIRS (slice_index img LONG_GATE) img × HaveTargets SHORT_PAIRS (slice_index img SHORT_GATE) img

-- what the superblock and the gates say is in order: none of these rules fails
pub record HasHead (img : List ℕ) : Type 0 where
  pub pages : (LEAST_PAGES * PAGE_WORDS ≤ length img) × (length img ≤ MOST_PAGES * PAGE_WORDS)
  pub magic : word img 0 ≡ MAGIC
  pub version : word img 1 ≡ VERSION
  pub count : (LEAST_PAGES ≤ page_count img) × (PAGE_WORDS * page_count img ≤ length img)
  pub inodes : (LEAST_INODES ≤ inode_count img) × (inode_count img ≤ MOST_INODES)
  pub spare : (w : ℕ) → 4 ≤ w → w < PAGE_WORDS → word img w ≡ 0
  pub recorded : IsRecord img
