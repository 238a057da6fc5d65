-- What is promised of a run of a command, by how far it came.
use Rattle.std.proofs.Common.{◌≡◌, ℕ, ◌≤◌, List, Option, Some, None, refl, inl, inr, ap, subst, arith}
use Rattle.ct_call.specs.declared.mount.State.{State}
use Rattle.ct_call.specs.declared.mount.Why.{Why}
use Rattle.ct_call.specs.declared.mount.Why.TheVariants.{Damage, Fault, Memory}
use Rattle.ct_pm.proofs.OneWord.{Replays}
use Rattle.ct_script.proofs.Puts.{rose_after}
use Rattle.ct_shell.proofs.Kept.{keeps_rests}
use Rattle.ct_shell.specs.Moments.{Moment, moment_in}
use Rattle.ct_run.specs.Carried.{LeavesBy, RunsAs, RunsOver, Streams, WorksOver, streams}
use Rattle.ct_run.specs.Ends.{HasCauses, IsServed, status_of}
use Rattle.ct_run.specs.Opened.{Devices, Opened, Unopened, devices}
use Rattle.ct_run.specs.Ways.{IsScript}
use Rattle.ct_run.specs.Words.{way_of, work_of}
use Rattle.ct_run.specs.declared.opening.Way.{Way}
use Rattle.ct_tree.specs.Tree.{Tree}
use Rattle.ct_run.specs.declared.command.Command.{Command}
use Rattle.ct_run.specs.declared.status.Status.{Status}
use Rattle.ct_run.specs.declared.status.Status.TheVariants.{DeviceFault, NoMemory, NotImage, ReadFault, Usage, WriteFault}

-- a run that served knows its command, and that there is an image
pub served_usage : {status : Status} → IsServed status → status ≡ Usage → ⊥
served_usage served is = subst IsServed is served

pub served_rule : {status : Status} {rule : ℕ} → IsServed status → status ≡ NotImage rule → ⊥
served_rule served is = subst IsServed is served

-- what had a cause has it with what was before
pub later_causes : {status : Status} {device mid device' source source' sink sink' : ℕ} → device ≤ mid → HasCauses status mid device' source source' sink sink' → HasCauses status device device' source source' sink sink'
later_causes later causes = record { device_fault = λ is. rose_after _ _ _ later (causes.device_fault is); read_fault = causes.read_fault; write_fault = causes.write_fault }

-- what is promised of a run that knew its command is promised of the command
pub runs_some : {D S O : Type 0} (command : Command) (status : Status) (d : Devices D) (s : Streams S O) → RunsOver (way_of command) (IsScript (work_of command)) (λ c t begin. LeavesBy (work_of command) c t status s begin d.to) status d s → RunsAs (Some command) status d s
runs_some command status d s r = record {
  usage = (λ is. absurd (r.known is), λ none. absurd (cc));
  unread = r.unread;
  untouched = r.untouched;
  head = r.head;
  ends = r.ends;
  not_image = r.not_image;
  refused = r.refused;
  later = r.later;
  causes = r.causes;
}

-- nothing failed
pub quiet : (status : Status) (device device' source source' sink sink' : ℕ) → (status ≡ DeviceFault → ⊥) → (status ≡ ReadFault → ⊥) → (status ≡ WriteFault → ⊥) → HasCauses status device device' source source' sink sink'
quiet status device device' source source' sink sink' no_device no_read no_write = record { device_fault = λ is. absurd (no_device is); read_fault = λ is. absurd (no_read is); write_fault = λ is. absurd (no_write is) }

module _ {D S O : Type 0} (dev : D) (from : Moment) (pages faults : ℕ) (input : S) (out : O) (rest old : Option (List ℕ)) (source sink : ℕ) where
  -- the words are no command
  pub runs_usage : RunsAs None Usage (devices dev dev from from pages faults faults) (streams input input out out rest rest old old source source sink sink)
  runs_usage = record {
    usage = (λ is. refl, λ none. refl);
    unread = λ unbegun. (refl, refl);
    untouched = λ unbegun. inl refl;
    head = λ rule is low. refl;
    ends = λ served. absurd served;
    not_image = λ rule is. absurd (cc);
    refused = λ rule is. absurd is;
    later = omega arith;
    causes = quiet Usage faults faults source source sink sink (λ is. cc) (λ is. cc) (λ is. cc);
  }

  -- memory ran out first
  pub runs_short : (way : Way) (Takes : Type 0) (Leaves : ℕ → Tree → Moment → Type 0) → RunsOver way Takes Leaves NoMemory (devices dev dev from from pages faults faults) (streams input input out out rest rest old old source source sink sink)
  runs_short way Takes Leaves = record {
    known = λ is. cc;
    unread = λ unbegun. (refl, refl);
    untouched = λ unbegun. inl refl;
    head = λ rule is low. refl;
    ends = λ served. absurd served;
    not_image = λ rule is. absurd (cc);
    refused = λ rule is. inr (inl refl);
    later = omega arith;
    causes = quiet NoMemory faults faults source source sink sink (λ is. cc) (λ is. cc) (λ is. cc);
  }

-- no file system came to stand
pub runs_unopened : {D S O : Type 0} (way : Way) (Takes : Type 0) (Leaves : ℕ → Tree → Moment → Type 0) (why : Why) (d : Devices D) (input : S) (out : O) (rest old : Option (List ℕ)) (source sink : ℕ) → Unopened way why d
    → RunsOver way Takes Leaves (status_of why) d (streams input input out out rest rest old old source source sink sink)
runs_unopened way Takes Leaves (Damage n) d input out rest old source sink u = record {
  known = λ is. cc;
  unread = λ unbegun. (refl, refl);
  untouched = λ unbegun. u.untouched (λ is. absurd (cc));
  head = λ rule is low.
      let same : n ≡ rule = cc in
      u.head rule (ap (λ k. Damage k) same) low;
  ends = λ served. absurd served;
  not_image = λ rule is.
      let same : n ≡ rule = cc in
      u.bars rule (ap (λ k. Damage k) same);
  refused = u.barred;
  later = u.later;
  causes = quiet (NotImage n) d.faults d.faults' source source sink sink (λ is. cc) (λ is. cc) (λ is. cc);
}
runs_unopened way Takes Leaves Fault d input out rest old source sink u = record {
  known = λ is. cc;
  unread = λ unbegun. (refl, refl);
  untouched = λ unbegun. absurd (unbegun tt);
  head = λ rule is low. absurd (cc);
  ends = λ served. inl ((refl, refl), u.fails refl);
  not_image = λ rule is. absurd (cc);
  refused = u.barred;
  later = u.later;
  causes = record { device_fault = λ is. u.cause refl; read_fault = λ is. absurd (cc); write_fault = λ is. absurd (cc) };
}
runs_unopened way Takes Leaves Memory d input out rest old source sink u = record {
  known = λ is. cc;
  unread = λ unbegun. (refl, refl);
  untouched = λ unbegun. u.untouched (λ is. absurd (cc));
  head = λ rule is low. absurd (cc);
  ends = λ served. absurd served;
  not_image = λ rule is. absurd (cc);
  refused = u.barred;
  later = u.later;
  causes = quiet NoMemory d.faults d.faults' source source sink sink (λ is. cc) (λ is. cc) (λ is. cc);
}

-- one stood, and the work was done
pub runs_over : {D S O : Type 0} {bound : _} (way : Way) (Takes : Type 0) (Leaves : ℕ → Tree → Moment → Type 0) (status : Status) (d : Devices D) (s : Streams S O) (state : Option (State D bound)) (replays : (dev : D) → Replays (bound.told dev) (bound.words dev))
    → Opened way d.pages d.faults d.from state → WorksOver Takes Leaves status state d.faults' s → RunsOver way Takes Leaves status d s
runs_over way Takes Leaves status d s state replays opened works = record {
  known = served_usage works.served;
  unread = λ unbegun. absurd (unbegun works.served);
  untouched = λ unbegun. absurd (unbegun works.served);
  head = λ rule is low. absurd (served_rule works.served is);
  ends = λ served.
      inr
      (record {
        begin = moment_in state;
        opens = opened.opens;
        some = opened.some;
        on = λ t starts. let keeps = opened.keeps t starts in (keeps_rests _ state t replays keeps, works.leaves _ t keeps);
      });
  not_image = λ rule is. absurd (served_rule works.served is);
  refused = λ rule is. absurd (opened.bars rule is);
  later = let before = opened.later in let after = works.later in omega (arith, before, after);
  causes = later_causes opened.later works.causes;
}
