-- What was written of a tree that was dumped, by how the run ends.
use Rattle.std.proofs.Common.{◌≡◌, ℕ, List, Option, Ok, Err, true≢false, refl, sym, subst, ◌∙◌, arith}
use Rattle.std.specs.declared.result.Result.{Result}
use Rattle.ct_base.specs.Causes.{Rose}
use Rattle.ct_call.specs.Calls.{Keeps}
use Rattle.ct_call.specs.Seen.{faults_in}
use Rattle.ct_call.specs.declared.mount.State.{State}
use Rattle.ct_dump.specs.Dumped.{placed_below}
use Rattle.ct_dump.specs.Dumps.{DumpAppends, DumpHasCause}
use Rattle.ct_dump.specs.declared.fault.DumpFault.{DumpFault}
use Rattle.ct_dump.specs.declared.fault.DumpFault.TheVariants.{Write, TooLong as PathTooLong}
use Rattle.ct_shell.specs.Moments.{moment_in}
use Rattle.ct_tree.specs.Tree.{Tree}
use Rattle.ct_run.specs.Carried.{IsStanding, WorksAs, streams}
use Rattle.ct_run.specs.Dumps.{HasLongPath, HasShortPaths, WroteDump, dump_status}
use Rattle.ct_run.specs.Ends.{IsServed}
use Rattle.ct_run.specs.Ways.{dump}
use Rattle.ct_run.specs.declared.status.Status.{Status}
use Rattle.ct_run.specs.declared.status.Status.TheVariants.{WriteFault}

module _ {A : Type 0} where
  pub wrote_dump : (r : Result A DumpFault) (t : Tree) (a b : Option (List ℕ)) → DumpAppends a b r (placed_below t) → WroteDump (dump_status r) t a b
  wrote_dump (Ok done) t a b w = w
  wrote_dump (Err PathTooLong) t a b w = w
  wrote_dump (Err Write) t a b w = w

  pub dump_served : (r : Result A DumpFault) → IsServed (dump_status r)
  dump_served (Ok done) = tt
  dump_served (Err PathTooLong) = tt
  dump_served (Err Write) = tt

  pub dump_cause : (r : Result A DumpFault) (before now : ℕ) → DumpHasCause before now r → dump_status r ≡ WriteFault → Rose before now
  dump_cause (Ok done) before now h is = absurd (cc)
  dump_cause (Err PathTooLong) before now h is = absurd (cc)
  dump_cause (Err Write) before now h is = h.1

-- what a dump leaves, with the input as it was and no step
pub works_dump : {D S O : Type 0} {bound : _} (status : Status) (state : Option (State D bound)) (stands : IsStanding state) (input : S) (out out' : O) (rest old new : Option (List ℕ)) (source sink sink' : ℕ) → IsServed status → ((c : ℕ) (t : Tree) → Keeps c state t → WroteDump status t old new)
    → (status ≡ WriteFault → Rose sink sink') → WorksAs dump status state (moment_in state) (faults_in state) (streams input input out out' rest rest old new source source sink sink')
works_dump status state stands input out out' rest old new source sink sink' served wrote write = record {
  served = served;
  leaves = λ c t keeps. (refl, wrote c t keeps, refl);
  later = omega arith;
  causes = record {
    device_fault = λ is. absurd (subst (λ s. WroteDump s stands.1.0 old new) is (wrote stands.0 stands.1.0 stands.1.1));
    read_fault = λ is. absurd (subst (λ s. WroteDump s stands.1.0 old new) is (wrote stands.0 stands.1.0 stands.1.1));
    write_fault = write;
  };
}

pub long_or_short : (t : Tree) → HasLongPath t → HasShortPaths t → ⊥
long_or_short t long short = true≢false (sym short ∙ long)
