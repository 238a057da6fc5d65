use Rattle.std.proofs.Common.{refl, sym, subst, inl, ap, Some, arith}
use Rattle.std.proofs.lemmas.Option.{none-some}
use Rattle.ct_call.specs.Calls.{Keeps}
use Rattle.ct_run.specs.Ends.{status_of}
use Rattle.ct_run.proofs.Ends.{made_at, refused_size}
use Rattle.ct_run.proofs.Images.{dev_faults}
use Rattle.ct_tree.specs.Tree.{Dir, none}
use Rattle.ct_run.proofs.opening.open_new.Goals as goal

pub returns-in-Ok : goal.returns-in-Ok
returns-in-Ok g c =
    let fs = c.in-Ok.fs in
    let e = c.in-Ok.ensures in
    let n = c.args.inodes in
    let pages = g.D.Pm.page_count c.args.dev in
    record {
      some = (Dir none, refl);
      keeps = λ t is. subst (Keeps n fs.state) (sym is) e.keeps;
      opens = made_at n pages fs (g.D.Pm.words c.args.dev) (g.D.Pm.told c.args.dev) e.made e.moments e.others;
      bars = λ rule is. none-some _ ((e.size rule).1 is);
      later = let had = e.later in let same = dev_faults fs.state fs.here in omega (arith, had, same);
    }

pub returns-in-Err : goal.returns-in-Err
returns-in-Err g c =
    let no = c.in-Err.no_mount in
    let e = c.in-Err.ensures in
    let pages = g.D.Pm.page_count c.args.dev in
    record {
      bars = λ rule is. (e.size rule).0 (ap Some is);
      barred = λ rule is. refused_size no.why (status_of no.why) rule pages refl is e.size;
      head = λ rule is low. e.untouched (λ fault. absurd (cc));
      untouched = λ whole. inl (e.untouched whole);
      fails = λ fault. record { failed = refl; moments = e.moments; reads = e.reads };
      cause = e.cause;
      later = e.later;
    }
