-- How a run over an image ends, and one that makes an image.
use Rattle.std.specs.Prelude.{◌≡◌, ◌⊎◌, ℕ, ◌≤◌, List, Option, Some, None}
use Rattle.ct_base.specs.Head.{HasHead}
use Rattle.ct_base.specs.State.{SameState}
use Rattle.ct_mount.specs.Mounting.{IsSettledFrom, Recovers}
use Rattle.ct_pm.specs.Device.{LeavesOnly, MakesOnly}
use Rattle.ct_recover.specs.Settling.{Settling}
use Rattle.ct_tree.specs.Lands.{Lands}
use Rattle.ct_tree.specs.Tree.{Dir, Tree, none}
use Rattle.ct_shell.specs.Moments.{Begins, Moment, RestsOn}
use Rattle.ct_run.specs.Ends.{Ends, IsMade, IsUnused, Unmade}
use Rattle.ct_run.specs.Ways.{Bars}
use Rattle.ct_run.specs.Words.{TakesImage, way_of}
use Rattle.ct_run.specs.declared.command.Command.{Command}
use Rattle.ct_run.specs.declared.status.Status.{Status}
use Rattle.ct_run.specs.declared.status.Status.TheVariants.{Done, DeviceFault, NoMemory, NotImage}

-- A mount, whether it came to its end or not. A crash at any moment leaves what settles to the state of the words at entry, in
-- which the same rules fail, and so do the words as they read; where those at entry land on a tree, so does all of this, and no
-- step stores on a page of a live file, unless a pair of the record that was open names one.
pub record Mounts (from to : Moment) : Type 0 where
  pub made : MakesOnly (Settling from.words) from.told to.told
  pub moments : LeavesOnly from.told to.told (SameState from.words)
  pub reads : SameState from.words to.words
  pub recovers : (t : Tree) → Lands from.words t → Recovers t from.words from.told to.told to.words

-- It came to its end on words with a head: they were settled, and no more was done.
pub record Settles (from to : Moment) : Type 0 where
  pub head : HasHead from.words
  pub mounts : Mounts from to
  pub settled : IsSettledFrom from.words to.words to.told

-- the device failed in the mount
pub record Unmounted (status : Status) (from to : Moment) : Type 0 where
  pub failed : status ≡ DeviceFault
  pub mounts : Mounts from to

-- The file system was not mounted, or it was, from some moment on, with the tree on which the words landed; and then the script
-- was served over it.
abbrev pub EndsRun : {S O : Type 0} → ℕ → Tree → Status → S → S → O → O → Option (List ℕ) → Option (List ℕ) → Option (List ℕ) → Option (List ℕ) → Moment → Moment → Type 0
EndsRun c t status input input' out out' rest rest' old new from to =
    IsUnused input input' out out' × Unmounted status from to
    ⊎ Begins c t (Settles from) (λ begin. Ends c t status rest rest' old new begin to)

-- a file system with an empty tree was made of all pages
pub record Formatted (inodes pages : ℕ) (status : Status) (from to : Moment) : Type 0 where
  pub done : status ≡ Done
  pub made : IsMade inodes pages from to
  pub rests : RestsOn inodes (Dir none) to

-- it was made, or the device failed before
abbrev pub EndsFormat : ℕ → ℕ → Status → Moment → Moment → Type 0
EndsFormat inodes pages status from to = Unmade status from to ⊎ Formatted inodes pages status from to

-- The device is no image for the command, and this is the number of the rule: one that is to be mounted by the first rule that
-- fails, one that is to be formatted by its size.
abbrev pub IsNoImage : Option Command → ℕ → List ℕ → ℕ → Type 0
IsNoImage None pages words rule = ⊥
IsNoImage (Some command) pages words rule = Bars (way_of command) pages words rule

-- how a run ends then: memory may run out before, and where the rule is not one of the head the device may fail
abbrev pub IsRefusal : ℕ → Status → Type 0
IsRefusal rule status = (status ≡ NotImage rule) ⊎ (status ≡ NoMemory) ⊎ ((status ≡ DeviceFault) × (8 ≤ rule))

-- the device is as it was, but that a command that mounts it may have settled it
abbrev pub IsUntouched : {D : Type 0} → Option Command → D → D → Moment → Moment → Type 0
IsUntouched command dev dev' from to = (dev' ≡ dev) ⊎ (TakesImage command × Settles from to)
