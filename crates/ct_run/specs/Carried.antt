-- What is left of a run by its command, which is a way in which a file system comes to stand and a work over it.
use Rattle.std.specs.Prelude.{◌≡◌, ◌⊎◌, ◌↔◌, ℕ, ◌+◌, ◌<◌, ◌≤◌, List, Option, Some, None, length}
use Rattle.ct_base.specs.declared.layout.TheConstants.{PAGE_BYTES}
use Rattle.ct_call.specs.Calls.{Keeps}
use Rattle.ct_call.specs.Seen.{faults_in}
use Rattle.ct_call.specs.declared.mount.State.{State}
use Rattle.ct_script.specs.Feed.{unasked}
use Rattle.ct_shell.specs.Moments.{Moment, moment_in}
use Rattle.ct_tally.specs.Tried.{workload}
use Rattle.ct_tree.specs.Tree.{Tree}
use Rattle.ct_run.specs.Dumps.{WroteDump}
use Rattle.ct_run.specs.Ends.{Ends, HasCauses, IsServed, IsUnbegun, IsUnused}
use Rattle.ct_run.specs.Images.{IsNoImage, IsRefusal, IsUntouched, Settles}
use Rattle.ct_run.specs.Opened.{Devices, Fails, Stood}
use Rattle.ct_run.specs.Ways.{Bars, IsMounting, IsScript, Work, calls, dump, nothing, script}
use Rattle.ct_run.specs.Words.{TakesScript, way_of, work_of}
use Rattle.ct_run.specs.Workloads.{LeavesWork}
use Rattle.ct_run.specs.declared.command.Command.{Command}
use Rattle.ct_run.specs.declared.job.Job.{Job}
use Rattle.ct_run.specs.declared.job.Job.TheVariants.{Script, Nothing, Calls, Dump}
use Rattle.ct_run.specs.declared.opening.Way.{Way}
use Rattle.ct_run.specs.declared.status.Status.{Status}
use Rattle.ct_run.specs.declared.status.Status.TheVariants.{Done, NotImage, Usage}

-- the input and the output before and after: themselves, what the one still gives and the other was given, and how often they failed
pub record Streams (S O : Type 0) : Type 0 where
  pub input : S
  pub input' : S
  pub out : O
  pub out' : O
  pub rest : Option (List ℕ)
  pub rest' : Option (List ℕ)
  pub old : Option (List ℕ)
  pub new : Option (List ℕ)
  pub source : ℕ
  pub source' : ℕ
  pub sink : ℕ
  pub sink' : ℕ

abbrev pub streams : {S O : Type 0} → S → S → O → O → Option (List ℕ) → Option (List ℕ) → Option (List ℕ) → Option (List ℕ) → ℕ → ℕ → ℕ → ℕ → Streams S O
streams input input' out out' rest rest' old new source source' sink sink' = record {
  input = input;
  input' = input';
  out = out;
  out' = out';
  rest = rest;
  rest' = rest';
  old = old;
  new = new;
  source = source;
  source' = source';
  sink = sink;
  sink' = sink';
}

-- the work that a job does
abbrev pub work_in : Job → Work
work_in (Script buffers) = script
work_in Nothing = nothing
work_in (Calls number count page) = calls number count
work_in (Dump quote) = dump

-- a job has the memory of its work, and nothing was asked of the input yet
abbrev pub HasMemory : Job → Type 0
HasMemory (Script buffers) = buffers.feed ≡ unasked
HasMemory (Calls number count page) = length page.bytes.items ≡ PAGE_BYTES
HasMemory job = Unit {0}

-- the job is the work of the command
pub record IsJobOf (command : Command) (job : Job) : Type 0 where
  pub work : work_in job ≡ work_of command
  pub memory : HasMemory job

-- the mount holds a tree
abbrev pub IsStanding : {D : Type 0} {bound : _} → Option (State D bound) → Type 0
IsStanding state = (count : ℕ) × ((t : Tree) × Keeps count state t)

-- what a work leaves over a file system that held tree t
abbrev pub LeavesBy : {S O : Type 0} → Work → ℕ → Tree → Status → Streams S O → Moment → Moment → Type 0
LeavesBy script c t status s begin to = Ends c t status s.rest s.rest' s.old s.new begin to
LeavesBy nothing c t status s begin to = IsUnused s.input s.input' s.out s.out' × (status ≡ Done) × (to ≡ begin)
LeavesBy (calls number count) c t status s begin to = (s.input' ≡ s.input) × LeavesWork c t status (workload number count) s.out s.out' s.old s.new begin to
LeavesBy dump c t status s begin to = (s.input' ≡ s.input) × WroteDump status t s.old s.new × (to ≡ begin)

-- All that is promised of what is done over a file system that stands: what it leaves of each tree that it may hold, and whether
-- it serves items of the input.
pub record WorksOver {D S O : Type 0} {bound : _} (Takes : Type 0) (Leaves : ℕ → Tree → Moment → Type 0) (status : Status) (state : Option (State D bound)) (faults' : ℕ) (s : Streams S O) : Type 0 where
  pub served : IsServed status
  pub leaves : (c : ℕ) (t : Tree) → Keeps c state t → Leaves c t (moment_in state)
  pub later : faults_in state ≤ faults'
  pub causes : HasCauses status (faults_in state) faults' s.source s.source' s.sink s.sink'

-- and of a work
abbrev pub WorksAs : {D S O : Type 0} {bound : _} → Work → Status → Option (State D bound) → Moment → ℕ → Streams S O → Type 0
WorksAs work status state to faults' s = WorksOver (IsScript work) (λ c t begin. LeavesBy work c t status s begin to) status state faults' s

-- All that is promised of a run whose file system comes to stand in this way, and where then what is done leaves this.
pub record RunsOver {D S O : Type 0} (way : Way) (Takes : Type 0) (Leaves : ℕ → Tree → Moment → Type 0) (status : Status) (d : Devices D) (s : Streams S O) : Type 0 where
  pub known : status ≡ Usage → ⊥
  pub unread : IsUnbegun status → IsUnused s.input s.input' s.out s.out'
  pub untouched : IsUnbegun status → (d.dev' ≡ d.dev) ⊎ (IsMounting way × Settles d.from d.to)
  pub head : (rule : ℕ) → status ≡ NotImage rule → rule < 8 → d.dev' ≡ d.dev
  pub ends : IsServed status → IsUnused s.input s.input' s.out s.out' × Fails way status d.from d.to ⊎ Stood way d.pages d.from Leaves
  pub not_image : (rule : ℕ) → status ≡ NotImage rule → Bars way d.pages d.from.words rule
  pub refused : (rule : ℕ) → Bars way d.pages d.from.words rule → IsRefusal rule status
  pub later : d.faults ≤ d.faults'
  pub causes : HasCauses status d.faults d.faults' s.source s.source' s.sink s.sink'

-- What a command leaves that was begun: the device failed before the file system stood, and nothing was read or written; or it
-- stood, and then the work was done.
abbrev pub EndsAs : {S O : Type 0} → Option Command → ℕ → Status → Streams S O → Moment → Moment → Type 0
EndsAs None pages status s from to = ⊥
EndsAs (Some command) pages status s from to =
    IsUnused s.input s.input' s.out s.out' × Fails (way_of command) status from to
    ⊎ Stood (way_of command) pages from (λ c t begin. LeavesBy (work_of command) c t status s begin to)

-- all that is promised of a run of a command: that of its way and of what its work leaves
pub record RunsAs {D S O : Type 0} (command : Option Command) (status : Status) (d : Devices D) (s : Streams S O) : Type 0 where
  pub usage : status ≡ Usage ↔ (command ≡ None)
  pub unread : IsUnbegun status → IsUnused s.input s.input' s.out s.out'
  pub untouched : IsUnbegun status → IsUntouched command d.dev d.dev' d.from d.to
  pub head : (rule : ℕ) → status ≡ NotImage rule → rule < 8 → d.dev' ≡ d.dev
  pub ends : IsServed status → EndsAs command d.pages status s d.from d.to
  pub not_image : (rule : ℕ) → status ≡ NotImage rule → IsNoImage command d.pages d.from.words rule
  pub refused : (rule : ℕ) → IsNoImage command d.pages d.from.words rule → IsRefusal rule status
  pub later : d.faults ≤ d.faults'
  pub causes : HasCauses status d.faults d.faults' s.source s.source' s.sink s.sink'
