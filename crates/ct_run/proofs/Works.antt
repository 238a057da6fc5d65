-- How a run ends that makes the calls of a number.
use Rattle.std.proofs.Common.{◌≡◌, ℕ, ◌≤◌, List, Option, refl, subst, arith}
use Rattle.std.specs.Io.KnownBytes.{Appends}
use Rattle.ct_base.specs.Causes.{Rose}
use Rattle.ct_call.specs.Calls.{Keeps}
use Rattle.ct_call.specs.Seen.{faults_in}
use Rattle.ct_call.specs.declared.mount.State.{State}
use Rattle.ct_pm.proofs.OneWord.{Replays}
use Rattle.ct_shell.proofs.Kept.{keeps_rests}
use Rattle.ct_shell.specs.Moments.{Moment, moment_in}
use Rattle.ct_tally.specs.Tallies.{tally_line, tally_of}
use Rattle.ct_tally.specs.Tried.{Answered, workload}
use Rattle.ct_tally.specs.declared.tally.Tally.{Tally}
use Rattle.ct_tree.specs.Runs.{Item}
use Rattle.ct_tree.specs.Tree.{Tree}
use Rattle.ct_run.specs.Carried.{IsStanding, WorksAs, streams}
use Rattle.ct_run.specs.Ends.{IsServed}
use Rattle.ct_run.specs.Ways.{calls, nothing}
use Rattle.ct_run.specs.Workloads.{LeavesWork, Worked}
use Rattle.ct_run.specs.declared.status.Status.{Status}
use Rattle.ct_run.specs.declared.status.Status.TheVariants.{Done, DeviceFault, WriteFault}

-- so much of the summary was written of calls that were all answered
pub worked : {D : Type 0} {bound : _} (c : ℕ) (t : Tree) (all : List Item) (before after : Option (State D bound)) (replays : (dev : D) → Replays (bound.told dev) (bound.words dev)) (tally : Tally) (old new : Option (List ℕ)) (Part : List ℕ → List ℕ → Type 0) (written : List ℕ)
    → Answered c t all before after (λ replies left. tally ≡ tally_of replies left) → Part written (tally_line tally) → Appends old new written → Worked c t all old new (moment_in before) (moment_in after) Part
worked c t all before after replays tally old new Part written answered part wrote = record {
  replies = answered.replies;
  left = answered.left;
  holds = (keeps_rests c after answered.left replays answered.keeps).holds;
  ran = answered.ran;
  written = written;
  part = subst (λ (k : Tally). Part written (tally_line k)) answered.fact part;
  wrote = wrote;
}

-- what the calls of a number leave, with the input as it was
pub works_calls : {D S O : Type 0} {bound : _} (number count : ℕ) (status : Status) (state : Option (State D bound)) (to : Moment) (faults' : ℕ) (stands : IsStanding state) (input : S) (out out' : O) (rest old new : Option (List ℕ)) (source sink sink' : ℕ)
    → IsServed status → ((c : ℕ) (t : Tree) → Keeps c state t → LeavesWork c t status (workload number count) out out' old new (moment_in state) to) → ((c : ℕ) (t : Tree) → Keeps c state t → faults_in state ≤ faults')
    → ((c : ℕ) (t : Tree) → Keeps c state t → status ≡ DeviceFault → Rose (faults_in state) faults') → (status ≡ WriteFault → Rose sink sink') → WorksAs (calls number count) status state to faults' (streams input input out out' rest rest old new source source sink sink')
works_calls number count status state to faults' stands input out out' rest old new source sink sink' served leaves later device write = record {
  served = served;
  leaves = λ c t keeps. (refl, leaves c t keeps);
  later = later stands.0 stands.1.0 stands.1.1;
  causes = record {
    device_fault = device stands.0 stands.1.0 stands.1.1;
    read_fault = λ is. absurd (subst (λ s. LeavesWork stands.0 stands.1.0 s (workload number count) out out' old new (moment_in state) to) is (leaves stands.0 stands.1.0 stands.1.1));
    write_fault = write;
  };
}

-- where nothing was to be done
pub works_nothing : {D S O : Type 0} {bound : _} (state : Option (State D bound)) (input : S) (out : O) (rest old : Option (List ℕ)) (source sink : ℕ) → WorksAs nothing Done state (moment_in state) (faults_in state) (streams input input out out rest rest old old source source sink sink)
works_nothing state input out rest old source sink = record {
  served = tt;
  leaves = λ c t keeps. ((refl, refl), refl, refl);
  later = omega arith;
  causes = record { device_fault = λ is. absurd (cc); read_fault = λ is. absurd (cc); write_fault = λ is. absurd (cc) };
}
