-- How a file system comes to stand, and what is done over one that stands.
use Rattle.std.specs.Prelude.{◌≡◌, ℕ, ◌≤◌, List}
use Rattle.ct_base.specs.View.{inode_count}
use Rattle.ct_base.specs.declared.layout.TheConstants.{LEAST_INODES, MOST_INODES}
use Rattle.ct_format.specs.Made.{IsMissized}
use Rattle.ct_gen.specs.declared.calls.TheConstants.{MOST_DRAWS}
use Rattle.ct_mount.specs.Mounting.{IsFirst}
use Rattle.ct_tree.specs.Lands.{Lands}
use Rattle.ct_tree.specs.Ordered.{IsTree}
use Rattle.ct_tree.specs.Tree.{Dir, Tree, none}
use Rattle.ct_run.specs.declared.opening.Way.{Way}
use Rattle.ct_run.specs.declared.opening.Way.TheVariants.{Making, Mounting}

-- What is done over a file system that stands: the script of the input is served, nothing, the calls of a number are made with so
-- many draws, or its tree is written as the script that makes it.
pub data Work : Type 0 where
  script : Work
  nothing : Work
  calls : ℕ → ℕ → Work
  dump : Work

abbrev pub IsMounting : Way → Type 0
IsMounting (Making inodes) = ⊥
IsMounting Mounting = Unit {0}

abbrev pub IsScript : Work → Type 0
IsScript script = Unit {0}
IsScript work = ⊥

-- the numbers are within their bounds
abbrev pub IsWithinWay : Way → Type 0
IsWithinWay (Making inodes) = (LEAST_INODES ≤ inodes) × (inodes ≤ MOST_INODES)
IsWithinWay Mounting = Unit {0}

abbrev pub IsWithinWork : Work → Type 0
IsWithinWork (calls number count) = count ≤ MOST_DRAWS
IsWithinWork work = Unit {0}

-- how many inodes the file system has, where the words at entry are these
abbrev pub inodes_in : Way → List ℕ → ℕ
inodes_in (Making inodes) words = inodes
inodes_in Mounting words = inode_count words

-- the tree that it holds when it stands
abbrev pub Starts : Way → List ℕ → Tree → Type 0
Starts (Making inodes) words t = t ≡ Dir none
Starts Mounting words t = IsTree t × Lands words t

-- The device is no image for this, and this is the number of the rule: one that is to be mounted by the first rule that fails, one
-- that is to be formatted by its size.
abbrev pub Bars : Way → ℕ → List ℕ → ℕ → Type 0
Bars (Making inodes) pages words rule = (rule ≡ 0) × IsMissized pages
Bars Mounting pages words rule = IsFirst words rule
