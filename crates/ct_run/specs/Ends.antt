-- The ways in which a run may end, and what it leaves.
use Rattle.std.specs.Prelude.{◌≡◌, ◌⊎◌, ℕ, ◌+◌, ◌≤◌, List, [], length, Ok, Err}
use Rattle.std.specs.Io.KnownBytes.{Consumes}
use Rattle.std.specs.declared.option.Option.{Option}
use Rattle.std.specs.declared.result.Result.{Result}
use Rattle.ct_base.specs.Causes.{Rose}
use Rattle.ct_base.specs.Format.{IsFormatted}
use Rattle.ct_call.specs.Calls.{Holds}
use Rattle.ct_format.specs.Formatting.{Formats, IsFormatImage, IsFormatWord}
use Rattle.ct_call.specs.declared.mount.Why.{Why}
use Rattle.ct_call.specs.declared.mount.Why.TheVariants.{Damage, Fault, Memory}
use Rattle.ct_pm.specs.Device.{SameOff}
use Rattle.ct_script.specs.Script.{items}
use Rattle.ct_script.specs.declared.feed.TheConstants.{SCRIPT_BYTES}
use Rattle.ct_tree.specs.Runs.{Item}
use Rattle.ct_tree.specs.Tree.{Dir, Tree, none}
use Rattle.ct_shell.specs.Moments.{Begins, Moment}
use Rattle.ct_shell.specs.Served.{Served}
use Rattle.ct_shell.specs.Stream.{Halted, IsReadWhole, Paused}
use Rattle.ct_shell.specs.declared.call.ServeEnd.TheVariants.{Device, Output}
use Rattle.ct_shell.specs.declared.script.StreamEnd.{StreamEnd}
use Rattle.ct_shell.specs.declared.script.StreamEnd.TheVariants.{Device as FsFailed, Output as SinkFailed, Input as SourceFailed, TooLong as OverLimit}
use Rattle.ct_run.specs.Words.{mem_inodes}
use Rattle.ct_run.specs.declared.status.Status.{Status}
use Rattle.ct_run.specs.declared.status.Status.TheVariants.{Done, Usage, NotImage, DeviceFault, ReadFault, WriteFault, NoMemory, TooLong}

abbrev pub IsDoneOrNoMemory : Status → Type 0
IsDoneOrNoMemory Done = Unit {0}
IsDoneOrNoMemory NoMemory = Unit {0}
IsDoneOrNoMemory Usage = ⊥
IsDoneOrNoMemory ReadFault = ⊥
IsDoneOrNoMemory TooLong = ⊥
IsDoneOrNoMemory (NotImage rule) = ⊥
IsDoneOrNoMemory DeviceFault = ⊥
IsDoneOrNoMemory WriteFault = ⊥

-- a file system was to be made, and a script served over it
abbrev pub IsServed : Status → Type 0
IsServed Done = Unit {0}
IsServed DeviceFault = Unit {0}
IsServed ReadFault = Unit {0}
IsServed WriteFault = Unit {0}
IsServed TooLong = Unit {0}
IsServed Usage = ⊥
IsServed (NotImage rule) = ⊥
IsServed NoMemory = ⊥

-- nothing was begun
abbrev pub IsUnbegun : Status → Type 0
IsUnbegun status = IsServed status → ⊥

-- what is left, by the status
abbrev pub Leaves : ℕ → Tree → Status → List ℕ → Option (List ℕ) → Option (List ℕ) → Option (List ℕ) → Moment → Moment → Type 0
Leaves c t Done given rest old new from to =
    IsReadWhole given rest × ((left : Tree) × Holds c left to.words to.told × Served c t left (items given) [] old new from to)
Leaves c t DeviceFault given rest old new from to = (length given ≤ SCRIPT_BYTES) × Halted Device c t given rest old new from to
Leaves c t WriteFault given rest old new from to = (length given ≤ SCRIPT_BYTES) × Halted Output c t given rest old new from to
Leaves c t ReadFault given rest old new from to = (length given ≤ SCRIPT_BYTES) × Paused c t given [] old new from to
Leaves c t TooLong given rest old new from to = (length given ≡ SCRIPT_BYTES + 1) × ((left : List Item) × Paused c t given left old new from to)
Leaves c t Usage given rest old new from to = ⊥
Leaves c t (NotImage rule) given rest old new from to = ⊥
Leaves c t NoMemory given rest old new from to = ⊥

-- A script was served over a file system that held tree t, from one moment to another. Where the source tells its bytes, those
-- that it gave are the front of what it had.
pub record Ends (c : ℕ) (t : Tree) (status : Status) (rest rest' old new : Option (List ℕ)) (from to : Moment) : Type 0 where
  pub given : List ℕ
  pub gave : Consumes rest rest' given
  pub leaves : Leaves c t status given rest' old new from to

-- nothing was read or written
abbrev pub IsUnused : {S O : Type 0} → S → S → O → O → Type 0
IsUnused input input' out out' = (input' ≡ input) × (out' ≡ out)

-- the device failed while the file system was made: a crash leaves what a format does, and so do the words as they read
pub record Unmade (status : Status) (from to : Moment) : Type 0 where
  pub failed : status ≡ DeviceFault
  pub moments : Formats from.words from.told to.told
  pub reads : IsFormatImage from.words to.words

-- A format ended: until then a crash leaves what a format does, and the words are those of the image of an empty tree, of all
-- pages of the device; those that a format does not store are as they were.
pub record IsMade (inodes pages : ℕ) (from begin : Moment) : Type 0 where
  pub moments : Formats from.words from.told begin.told
  pub formatted : IsFormatted begin.words pages inodes
  pub others : SameOff IsFormatWord begin.words from.words

-- The file system was not made, or it was, from some moment on, and then the script was served over it.
abbrev pub EndsMem : {S O : Type 0} → Status → ℕ → S → S → O → O → Option (List ℕ) → Option (List ℕ) → Option (List ℕ) → Option (List ℕ) → Moment → Moment → Type 0
EndsMem status pages input input' out out' rest rest' old new from to =
    IsUnused input input' out out' × Unmade status from to
    ⊎ Begins mem_inodes (Dir none) (IsMade mem_inodes pages from) (λ begin. Ends mem_inodes (Dir none) status rest rest' old new begin to)

-- each fault that is answered has its cause
pub record HasCauses (status : Status) (device device' source source' sink sink' : ℕ) : Type 0 where
  pub device_fault : status ≡ DeviceFault → Rose device device'
  pub read_fault : status ≡ ReadFault → Rose source source'
  pub write_fault : status ≡ WriteFault → Rose sink sink'

-- how a run ends whose device was not mounted
abbrev pub status_of : Why → Status
status_of (Damage rule) = NotImage rule
status_of Fault = DeviceFault
status_of Memory = NoMemory

-- how a run ends whose script was served so
abbrev pub stream_status : {A : Type 0} → Result A StreamEnd → Status
stream_status (Ok done) = Done
stream_status (Err FsFailed) = DeviceFault
stream_status (Err SinkFailed) = WriteFault
stream_status (Err SourceFailed) = ReadFault
stream_status (Err OverLimit) = TooLong

-- the exit status of a program
abbrev pub code_of : Status → ℕ
code_of Done = 0
code_of Usage = 2
code_of (NotImage rule) = 3
code_of DeviceFault = 4
code_of ReadFault = 5
code_of WriteFault = 6
code_of NoMemory = 7
code_of TooLong = 8
