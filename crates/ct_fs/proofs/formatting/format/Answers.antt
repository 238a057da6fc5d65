use Rattle.std.proofs.Common.{subst, sym}
use Rattle.ct_format.specs.Formatting.{IsFormatImage}
use Rattle.ct_pm.specs.Device.{LeavesOnly}
use Rattle.ct_format.proofs.Moments.{any_moment, none_made}
use Rattle.ct_fs.proofs.Ready.{new_keeps, ready_dev}
use Rattle.ct_fs.proofs.formatting.format.Goals as goal

pub returns-in-Ok-clause-any_moment : goal.returns-in-Ok-clause-any_moment
returns-in-Ok-clause-any_moment g c =
    let words = g.D.Pm.words c.args.dev in
    let told = g.D.Pm.told c.args.dev in
    subst (λ dev. LeavesOnly told (g.D.Pm.told dev) (IsFormatImage words)) (sym (ready_dev c.of.result c.in-Ok.made c.of.ensures))
    (any_moment words told (g.D.Pm.told c.in-Ok.made.dev) c.in-Ok.ensures.moments)

pub returns-in-Err-clause-any_moment : goal.returns-in-Err-clause-any_moment
returns-in-Err-clause-any_moment g c =
    any_moment (g.D.Pm.words c.args.dev) (g.D.Pm.told c.args.dev) (g.D.Pm.told c.in-Err.no_mount.dev) c.in-Err.ensures.moments

pub returns-in-Ok-clause-keeps : goal.returns-in-Ok-clause-keeps
returns-in-Ok-clause-keeps g c = new_keeps c.of.result c.in-Ok.made c.of.ensures c.in-Ok.ensures.made c.in-Ok.ensures.settled

pub returns-in-Ok-clause-reads : goal.returns-in-Ok-clause-reads
returns-in-Ok-clause-reads g c = subst (λ dev. IsFormatImage (g.D.Pm.words c.args.dev) (g.D.Pm.words dev)) (sym (ready_dev c.of.result c.in-Ok.made c.of.ensures)) c.in-Ok.ensures.reads

pub returns-in_default-clause-moments : goal.returns-in_default-clause-moments
returns-in_default-clause-moments g c = none_made (g.D.Pm.words c.args.dev) (g.D.Pm.told c.args.dev) (g.met.D.Pm.replays c.args.dev) c.requires.settled

pub returns-in_default-clause-any_moment : goal.returns-in_default-clause-any_moment
returns-in_default-clause-any_moment g c =
    any_moment (g.D.Pm.words c.args.dev) (g.D.Pm.told c.args.dev) (g.D.Pm.told c.args.dev) (none_made (g.D.Pm.words c.args.dev) (g.D.Pm.told c.args.dev) (g.met.D.Pm.replays c.args.dev) c.requires.settled)
