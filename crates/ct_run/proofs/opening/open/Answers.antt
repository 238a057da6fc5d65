use Rattle.std.proofs.Common.{subst, sym}
use Rattle.std.specs.Prelude.{MatchResult}
use Rattle.ct_run.specs.Opened.{Opened, Unopened, devices}
use Rattle.ct_run.specs.Ways.{IsWithinWay}
use Rattle.ct_run.specs.declared.opening.Way.{Way}
use Rattle.ct_shell.specs.Moments.{moment}
use Rattle.ct_run.proofs.opening.open.Goals as goal

pub open_new-requires-clause-two : goal.open_new-requires-clause-two
open_new-requires-clause-two g c = (subst IsWithinWay c.in-Making.is c.requires.fits).0

pub open_new-requires-clause-few : goal.open_new-requires-clause-few
open_new-requires-clause-few g c = (subst IsWithinWay c.in-Making.is c.requires.fits).1

pub returns-in-Making : goal.returns-in-Making
returns-in-Making g c =
    let words = g.D.Pm.words c.args.dev in
    let told = g.D.Pm.told c.args.dev in
    let pages = g.D.Pm.page_count c.args.dev in
    let faults = g.D.Pm.faults c.args.dev in
    subst (λ (w : Way). MatchResult c.open_new.result (λ fs. Opened w pages faults (moment told words) fs.state) (λ no. Unopened w no.why (devices c.args.dev no.dev (moment told words) (moment (g.D.Pm.told no.dev) (g.D.Pm.words no.dev)) pages faults (g.D.Pm.faults no.dev)))) (sym c.in-Making.is)
    c.open_new.ensures

pub returns-in-Mounting : goal.returns-in-Mounting
returns-in-Mounting g c =
    let words = g.D.Pm.words c.args.dev in
    let told = g.D.Pm.told c.args.dev in
    let pages = g.D.Pm.page_count c.args.dev in
    let faults = g.D.Pm.faults c.args.dev in
    subst (λ (w : Way). MatchResult c.open_held.result (λ fs. Opened w pages faults (moment told words) fs.state) (λ no. Unopened w no.why (devices c.args.dev no.dev (moment told words) (moment (g.D.Pm.told no.dev) (g.D.Pm.words no.dev)) pages faults (g.D.Pm.faults no.dev)))) (sym c.in-Mounting.is)
    c.open_held.ensures
