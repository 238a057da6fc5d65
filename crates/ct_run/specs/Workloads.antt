-- How a run ends that makes the calls of a number.
use Rattle.std.specs.Prelude.{◌≡◌, ◌⊎◌, ℕ, List, [], take}
use Rattle.std.specs.Io.KnownBytes.{Appends}
use Rattle.std.specs.declared.option.Option.{Option}
use Rattle.ct_call.specs.Calls.{Holds}
use Rattle.ct_shell.specs.Moments.{Begins, Moment}
use Rattle.ct_shell.specs.Served.{Ran}
use Rattle.ct_tally.specs.Tallies.{summary}
use Rattle.ct_tally.specs.Tried.{Halted, workload}
use Rattle.ct_tree.specs.Runs.{Item}
use Rattle.ct_tree.specs.Tree.{Dir, Tree, none}
use Rattle.ct_tree.specs.declared.call.Reply.{Reply}
use Rattle.ct_run.specs.Ends.{IsMade, Unmade}
use Rattle.ct_run.specs.Words.{mem_inodes}
use Rattle.ct_run.specs.declared.status.Status.{Status}
use Rattle.ct_run.specs.declared.status.Status.TheVariants.{Done, Usage, NotImage, DeviceFault, ReadFault, WriteFault, NoMemory, TooLong}

-- All calls were answered, one after another with a moment for each, the device holds the tree that they left, and so much of the
-- summary was written.
pub record Worked (c : ℕ) (t : Tree) (all : List Item) (old new : Option (List ℕ)) (from to : Moment) (Part : List ℕ → List ℕ → Type 0) : Type 0 where
  pub replies : List Reply
  pub left : Tree
  pub holds : Holds c left to.words to.told
  pub ran : Ran c t left all [] replies from to
  pub written : List ℕ
  pub part : Part written (summary replies left)
  pub wrote : Appends old new written

-- the whole of it, or the front
abbrev pub IsWhole : List ℕ → List ℕ → Type 0
IsWhole written text = written ≡ text

abbrev pub IsFront : List ℕ → List ℕ → Type 0
IsFront written text = (k : ℕ) × (written ≡ take k text)

-- what is left of the calls over a file system that held tree t, by the status
abbrev pub LeavesWork : {O : Type 0} → ℕ → Tree → Status → List Item → O → O → Option (List ℕ) → Option (List ℕ) → Moment → Moment → Type 0
LeavesWork c t Done all out out' old new from to = Worked c t all old new from to IsWhole
LeavesWork c t WriteFault all out out' old new from to = Worked c t all old new from to IsFront
LeavesWork c t DeviceFault all out out' old new from to = Halted c t all from to × (out' ≡ out)
LeavesWork c t ReadFault all out out' old new from to = ⊥
LeavesWork c t TooLong all out out' old new from to = ⊥
LeavesWork c t Usage all out out' old new from to = ⊥
LeavesWork c t (NotImage rule) all out out' old new from to = ⊥
LeavesWork c t NoMemory all out out' old new from to = ⊥

-- The file system was not made, and nothing was written; or it was, from some moment on, and then the calls of the number were
-- made over it.
abbrev pub EndsGen : {O : Type 0} → ℕ → ℕ → Status → ℕ → O → O → Option (List ℕ) → Option (List ℕ) → Moment → Moment → Type 0
EndsGen number count status pages out out' old new from to =
    (out' ≡ out) × Unmade status from to
    ⊎ Begins mem_inodes (Dir none) (IsMade mem_inodes pages from) (λ begin. LeavesWork mem_inodes (Dir none) status (workload number count) out out' old new begin to)
