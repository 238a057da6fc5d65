-- What a mount answers, and what it leaves of a device.
use Rattle.std.specs.Prelude.{◌≡◌, ℕ, ◌/◌, List, Option, Some, None, slice_index}
use Rattle.ct_base.specs.declared.layout.TheConstants.{LONG_GATE, PAGE_WORDS}
use Rattle.ct_base.specs.Free.{IsFilePage}
use Rattle.ct_base.specs.Head.{HasHead}
use Rattle.ct_base.specs.Rules.{FailsFirst, Rule, Sound, number}
use Rattle.ct_base.specs.Settled.{IsShut, Named, Pair, open_pairs, settled}
use Rattle.ct_base.specs.Spares.{SparesReplay}
use Rattle.ct_check.specs.First.{MountFailsFirst, MountHolds, MountRule, mount_number}
use Rattle.ct_pm.specs.Device.{LeavesOnly, NothingPending, SameOff, StoresOver}
use Rattle.ct_pm.specs.Images.{History}
use Rattle.ct_pm.specs.Phase.{Phase}
use Rattle.ct_record.specs.Record.{InRecord}
use Rattle.ct_tree.specs.Lands.{Lands}
use Rattle.ct_tree.specs.Tree.{Tree}
use Rattle.ct_call.specs.declared.mount.Why.{Why}
use Rattle.ct_call.specs.declared.mount.Why.TheVariants.{Damage, Fault, Memory}

-- the number is that of the first mount rule that fails
abbrev pub IsFirst : List ℕ → ℕ → Type 0
IsFirst img n = (r : MountRule) × (mount_number r ≡ n) × MountFailsFirst img r

-- The words are mounted where no rule fails on them, and refused for the first that does. A fault or want of memory may come
-- before rule 8.
abbrev pub Judges : List ℕ → Option Why → Type 0
Judges img None = (r : MountRule) → MountHolds img r
Judges img (Some (Damage n)) = IsFirst img n
Judges img (Some Fault) = HasHead img
Judges img (Some Memory) = HasHead img

-- what the rules from 8 on say of words at rest: none fails, or this one is the first that does
abbrev pub Finds : List ℕ → Option Why → Type 0
Finds img None = Sound img
Finds img (Some (Damage n)) = (r : Rule) × (number r ≡ n) × FailsFirst img r
Finds img (Some Fault) = ⊥
Finds img (Some Memory) = Unit {0}

-- the words are what others settle to, pages 1 to 32 aside, both gates are closed, and nothing is pending
pub record IsSettledFrom (was now : List ℕ) (told : Option History) : Type 0 where
  pub words : SameOff InRecord now (settled was)
  pub shut : IsShut now
  pub lasts : NothingPending told

-- where the word lies on a page of a live file of what the image settles to, one of the pairs names it
abbrev pub SparesBut : List Pair → List ℕ → ℕ → ℕ → Type 0
SparesBut pairs image word value = IsFilePage (settled image) (word / PAGE_WORDS) → Named pairs word

-- A recovery of words that land on a tree, whether it came to its end or stopped on the way.
pub record Recovers (t : Tree) (was : List ℕ) (from to : Option History) (now : List ℕ) : Type 0 where
  -- a crash at any moment leaves what lands on the tree, and so do the words as they read
  pub moments : LeavesOnly from to (λ image. Lands image t)
  pub reads : Lands now t
  -- a step stores on a page of a live file only what a pair of the open record names
  pub stores : StoresOver (SparesBut (open_pairs was)) from to
  -- where no such pair names one, no step stores on one, nor will any that replays what a crash leaves
  pub spares : SparesReplay was → Phase (λ image. Lands image t) (slice_index was LONG_GATE) from to now
