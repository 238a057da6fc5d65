use Rattle.std.proofs.Common.{refl, subst, Some, arith}
use Rattle.ct_call.specs.declared.mount.Why.{Why}
use Rattle.ct_mount.specs.Mounting.{Judges}
use Rattle.ct_run.specs.Ends.{status_of}
use Rattle.ct_run.proofs.Images.{dev_faults, none_first, refused_rule, settled_or_not, settles_at, tree_of}
use Rattle.ct_shell.specs.Moments.{moment}
use Rattle.ct_run.proofs.opening.open_held.Goals as goal

pub returns-in-Ok : goal.returns-in-Ok
returns-in-Ok g c =
    let fs = c.in-Ok.fs in
    let e = c.in-Ok.ensures in
    let words = g.D.Pm.words c.args.dev in
    let t = tree_of words e.judged in
    record {
      some = (t.0, (t.1, t.2));
      keeps = λ u starts. e.keeps u starts.0 starts.1;
      opens = settles_at fs (moment (g.D.Pm.told c.args.dev) words) (record {
        head = t.2.head;
        mounts = record { made = e.made; moments = e.moments; reads = e.reads; recovers = e.recovers };
        settled = e.settled t.2.head (λ is. absurd (cc));
      });
      bars = none_first words e.judged;
      later = let had = e.later in let same = dev_faults fs.state fs.here in omega (arith, had, same);
    }

pub returns-in-Err : goal.returns-in-Err
returns-in-Err g c =
    let no = c.in-Err.no_mount in
    let e = c.in-Err.ensures in
    let words = g.D.Pm.words c.args.dev in
    let from = moment (g.D.Pm.told c.args.dev) words in
    let to = moment (g.D.Pm.told no.dev) (g.D.Pm.words no.dev) in
    record {
      bars = λ rule is. subst (λ (w : Why). Judges words (Some w)) is e.judged;
      barred = λ rule is. refused_rule words no.why (status_of no.why) rule refl e.judged is;
      head = e.untouched;
      untouched = λ whole. settled_or_not no.why c.args.dev no.dev from to whole e.judged e.untouched e.settled (record { made = e.made; moments = e.moments; reads = e.reads; recovers = e.recovers });
      fails = λ fault. record { failed = refl; mounts = record { made = e.made; moments = e.moments; reads = e.reads; recovers = e.recovers } };
      cause = e.cause;
      later = e.later;
    }
