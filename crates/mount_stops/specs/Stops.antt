-- What is mounted at the last, what a mount leaves, and how one history leads through stops to the last.
use Rattle.std.specs.Prelude.{◌≡◌, ℕ, List, [], ◌∷◌, ◌++◌, Result, Ok, Err}
use Rattle.ct_call.specs.declared.mount.NoMount.{NoMount}
use Rattle.ct_pm.specs.Images.{History}
use Rattle.ct_pm.specs.declared.step.Step.{Step}
use Rattle.mount_stops.specs.declared.through.Stop.{Stop}
use Rattle.pm_trace.specs.Crash.{IsChosen}
use Rattle.pm_trace.specs.Meaning.{faults_of}
use Rattle.pm_trace.specs.declared.trace.TracePm.{TracePm}

-- how often the device of the last mount had failed before it: a crash leaves a new one
abbrev pub faults_before : List Stop → TracePm → ℕ
faults_before [] dev = faults_of dev
faults_before (stop ∷ stops) dev = 0

-- the device behind either answer
abbrev pub trace_after : Result TracePm (NoMount TracePm) → TracePm
trace_after (Ok left) = left
trace_after (Err no_mount) = no_mount.dev

-- one history goes on to another: the same start, and some steps more
abbrev pub GoesOn : History → History → Type 0
GoesOn from to = (added : List Step) × (to ≡ record { start = from.start; steps = added ++ from.steps })

-- At a stop a history goes on, and a crash at its end leaves the image that is chosen: from that a new one begins.
pub record IsStopped (stop : Stop) (from left : History) : Type 0 where
  pub last : History
  pub goes_on : GoesOn from last
  pub chosen : IsChosen stop.choice.items last left.start
  pub begun : left.steps ≡ []

-- Each stop is made in its turn, on what the one before it left, and after the last one the history goes on to its end.
abbrev pub Through : List Stop → History → History → Type 0
Through [] from to = GoesOn from to
Through (stop ∷ stops) from to = (left : History) × IsStopped stop from left × Through stops left to
