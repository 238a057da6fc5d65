-- What a run has done of a script that is served line by line as it comes, and how it stopped.
use Rattle.std.specs.Prelude.{◌≡◌, ℕ, ◌+◌, ◌≤◌, List, [], ◌∷◌, length, Ok, Err}
use Rattle.std.specs.Io.KnownBytes.{Consumes, IsAtEnd}
use Rattle.std.specs.declared.option.Option.{Option}
use Rattle.std.specs.declared.result.Result.{Result}
use Rattle.ct_base.specs.Causes.{Rose}
use Rattle.ct_call.specs.Calls.{Holds}
use Rattle.ct_call.specs.Seen.{faults_in}
use Rattle.ct_call.specs.declared.mount.State.{State}
use Rattle.ct_chain.specs.Inputs.{MayTakeOf}
use Rattle.ct_script.specs.Script.{items, items_of, whole}
use Rattle.ct_script.specs.declared.feed.Next.{Next}
use Rattle.ct_script.specs.declared.feed.Next.TheVariants.{Line, Overlong, End}
use Rattle.ct_script.specs.declared.feed.TheConstants.{SCRIPT_BYTES}
use Rattle.ct_shell.specs.Moments.{Moment, moment_in}
use Rattle.ct_shell.specs.Served.{Served, StoppedBy}
use Rattle.ct_shell.specs.declared.call.ServeEnd.{ServeEnd}
use Rattle.ct_shell.specs.declared.call.ServeEnd.TheVariants.{Device as DeviceFailed, Output as OutputFailed}
use Rattle.ct_shell.specs.declared.script.StreamEnd.{StreamEnd}
use Rattle.ct_shell.specs.declared.script.StreamEnd.TheVariants.{Device, Output, Input, TooLong}
use Rattle.ct_tree.specs.Runs.{Item, bad}
use Rattle.ct_tree.specs.Tree.{Tree}

-- the items of what was found: those of a line, and a bad one of a line that is too long
abbrev pub next_items : Next → List ℕ → List Item
next_items Line line = items_of line
next_items Overlong line = bad ∷ []
next_items End line = []

-- the input was read to its end, and gave no more bytes than a script may have
abbrev pub IsReadWhole : List ℕ → Option (List ℕ) → Type 0
IsReadWhole given rest = IsAtEnd rest × (length given ≤ SCRIPT_BYTES)

-- the items that a run may take: of the lines that were ended, and at the end of the input of all
abbrev pub MayTake : List ℕ → Option (List ℕ) → List Item → Type 0
MayTake = MayTakeOf items_of

-- the device failed while an item of these was answered, or the output
pub record Halted (end : ServeEnd) (c : ℕ) (t : Tree) (given : List ℕ) (rest old new : Option (List ℕ)) (from to : Moment) : Type 0 where
  pub all : List Item
  pub may : MayTake given rest all
  pub stopped : StoppedBy end c t all old new from to

-- the items before the left ones were answered, each reply was written whole, and the device holds the tree after them
pub record Paused (c : ℕ) (t : Tree) (given : List ℕ) (left : List Item) (old new : Option (List ℕ)) (from to : Moment) : Type 0 where
  pub tree : Tree
  pub holds : Holds c tree to.words to.told
  pub served : Served c t tree (whole given) left old new from to

-- what is left where so many bytes were given
abbrev pub LeavesOf : {T : Type 0} → ℕ → Tree → Result T StreamEnd → List ℕ → Option (List ℕ) → Option (List ℕ) → Option (List ℕ) → Moment → Moment → Type 0
LeavesOf c t (Ok done) given rest old new from to =
    IsReadWhole given rest × ((left : Tree) × Holds c left to.words to.told × Served c t left (items given) [] old new from to)
LeavesOf c t (Err Device) given rest old new from to = (length given ≤ SCRIPT_BYTES) × Halted DeviceFailed c t given rest old new from to
LeavesOf c t (Err Output) given rest old new from to = (length given ≤ SCRIPT_BYTES) × Halted OutputFailed c t given rest old new from to
LeavesOf c t (Err Input) given rest old new from to = (length given ≤ SCRIPT_BYTES) × Paused c t given [] old new from to
LeavesOf c t (Err TooLong) given rest old new from to = (length given ≡ SCRIPT_BYTES + 1) × ((left : List Item) × Paused c t given left old new from to)

-- A script was served over a mount that held tree t, as it came. Where the source tells its bytes, those that it gave are the
-- front of what it had.
pub record Streams {D T : Type 0} {bound : _} (c : ℕ) (t : Tree) (before after : Option (State D bound)) (rest rest' old new : Option (List ℕ)) (result : Result T StreamEnd) : Type 0 where
  pub given : List ℕ
  pub gave : Consumes rest rest' given
  pub leaves : LeavesOf c t result given rest' old new (moment_in before) (moment_in after)
  pub later : faults_in before ≤ faults_in after
  pub fault : result ≡ Err Device → Rose (faults_in before) (faults_in after)

-- how a stream ends whose item was not answered, or whose reply was not written
abbrev pub halted_end : ServeEnd → StreamEnd
halted_end DeviceFailed = Device
halted_end OutputFailed = Output
