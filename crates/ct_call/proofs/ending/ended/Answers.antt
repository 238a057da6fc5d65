use Rattle.std.proofs.Common.{◌≡◌, ◌⊎◌, ℕ, Ok, length, refl, sym, subst}
use Rattle.std.specs.Prelude.{OnOk}
use Rattle.ct_base.specs.Causes.{HasCause}
use Rattle.ct_base.specs.Free.{HasFreePages}
use Rattle.ct_pm.specs.Phase.{Phase}
use Rattle.ct_record.specs.Seen.{device_behind}
use Rattle.ct_tree.specs.Lands.{Lands}
use Rattle.ct_commit.specs.Rest.{IsMounted}
use Rattle.ct_call.specs.Calls.{after, most_pairs}
use Rattle.ct_call.specs.Carried.{Reaches}
use Rattle.ct_call.proofs.Carried.{change_wants}
use Rattle.ct_call.proofs.Spaces.{is_told}
use Rattle.ct_call.proofs.Vacant.{free_once}
use Rattle.ct_call.proofs.ending.ended.Goals as goal

pub returns-in-Ok-clause-does : goal.returns-in-Ok-clause-does
returns-in-Ok-clause-does g c was t op starts reaches phase cause =
    let mounted = subst (λ r. OnOk r (IsMounted (g.D.Pm.words (device_behind r)) (g.D.Pm.told (device_behind r)) c.args.frames)) c.in-Ok.is c.requires.mounted in
    let reached = subst (λ r. OnOk r (Reaches (g.D.Pm.words was.dev) (g.D.Pm.words (device_behind r)) t op)) c.in-Ok.is reaches in
    record {
      answer = starts.can;
      told = is_told starts.rest starts.stands op (change_wants op starts.change) {T = ℕ} (Ok 0) starts.can;
      leaves = record { rest = mounted.rest; unstaged = mounted.unstaged; stands = reached.stands; lasts = mounted.settled; counted = reached.counted };
      later = (subst (λ r. HasCause (g.D.Pm.faults was.dev) (g.D.Pm.faults (device_behind r)) r) c.in-Ok.is cause).later;
      succeeds = λ can quiet. refl;
      phase = subst (λ r. Phase (λ image. Lands image t ⊎ Lands image (after t op)) (most_pairs op) (g.D.Pm.told was.dev) (g.D.Pm.told (device_behind r)) (g.D.Pm.words (device_behind r))) c.in-Ok.is phase;
    }

pub returns-in-Ok-clause-free : goal.returns-in-Ok-clause-free
returns-in-Ok-clause-free g c =
    let mounted = subst (λ r. OnOk r (IsMounted (g.D.Pm.words (device_behind r)) (g.D.Pm.told (device_behind r)) c.args.frames)) c.in-Ok.is c.requires.mounted in
    subst (λ r. OnOk r ((count : ℕ) → HasFreePages (g.D.Pm.words (device_behind r)) count → count ≡ length c.args.frames.free)) (sym c.in-Ok.is)
    (free_once (g.D.Pm.words c.in-Ok.dev) mounted.unstaged mounted.agrees c.free.ensures.rising c.free.ensures.in_range)

pub returns-in-Err-clause-does : goal.returns-in-Err-clause-does
returns-in-Err-clause-does g c was t op starts reaches phase cause =
    let caused = subst (λ r. HasCause (g.D.Pm.faults was.dev) (g.D.Pm.faults (device_behind r)) r) c.in-Err.is cause in
    record {
      answer = starts.can;
      told = tt;
      leaves = (refl, caused.failed);
      later = caused.later;
      succeeds = λ can quiet. absurd (quiet caused.failed);
      phase = subst (λ r. Phase (λ image. Lands image t ⊎ Lands image (after t op)) (most_pairs op) (g.D.Pm.told was.dev) (g.D.Pm.told (device_behind r)) (g.D.Pm.words (device_behind r))) c.in-Err.is phase;
    }
