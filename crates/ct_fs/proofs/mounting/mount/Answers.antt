use Rattle.std.proofs.Common.{subst, sym, ◌≤◌, None, Some}
use Rattle.std.proofs.lemmas.Option.{none-some}
use Rattle.ct_base.specs.State.{SameState}
use Rattle.ct_call.specs.declared.mount.Why.TheVariants.{Fault}
use Rattle.ct_base.specs.View.{inode_count}
use Rattle.ct_base.specs.Causes.{Rose}
use Rattle.ct_mount.specs.Mounting.{IsSettledFrom, Recovers}
use Rattle.ct_pm.specs.Device.{LeavesOnly, MakesOnly}
use Rattle.ct_recover.specs.Settling.{Settling}
use Rattle.ct_fs.proofs.Memory.{judged_by, keeps_by, no_damage, no_fault}
use Rattle.ct_fs.proofs.mounting.mount.Goals as goal

pub returns-in-Ok-clause-judged : goal.returns-in-Ok-clause-judged
returns-in-Ok-clause-judged g c = judged_by (g.D.Pm.words c.args.dev) c.with_memory.result c.with_memory.ensures.why c.in-Ok.ensures.judged

pub returns-in-Ok-clause-keeps : goal.returns-in-Ok-clause-keeps
returns-in-Ok-clause-keeps g c = keeps_by c.in-Ok.mounted (inode_count (g.D.Pm.words c.args.dev)) c.with_memory.result c.with_memory.ensures.ready c.in-Ok.ensures.holds

pub returns-in-Ok-clause-untouched : goal.returns-in-Ok-clause-untouched
returns-in-Ok-clause-untouched g c = no_damage c.args.dev c.with_memory.result c.with_memory.ensures.why

pub returns-in-Ok-clause-settled : goal.returns-in-Ok-clause-settled
returns-in-Ok-clause-settled g c head no_fault =
    subst (λ d. IsSettledFrom (g.D.Pm.words c.args.dev) (g.D.Pm.words d) (g.D.Pm.told d)) (sym c.with_memory.ensures.dev) (c.in-Ok.ensures.settled head (λ is. none-some Fault is))

pub returns-in-Ok-clause-made : goal.returns-in-Ok-clause-made
returns-in-Ok-clause-made g c = subst (λ d. MakesOnly (Settling (g.D.Pm.words c.args.dev)) (g.D.Pm.told c.args.dev) (g.D.Pm.told d)) (sym c.with_memory.ensures.dev) c.in-Ok.ensures.made

pub returns-in-Ok-clause-moments : goal.returns-in-Ok-clause-moments
returns-in-Ok-clause-moments g c = subst (λ d. LeavesOnly (g.D.Pm.told c.args.dev) (g.D.Pm.told d) (SameState (g.D.Pm.words c.args.dev))) (sym c.with_memory.ensures.dev) c.in-Ok.ensures.moments

pub returns-in-Ok-clause-reads : goal.returns-in-Ok-clause-reads
returns-in-Ok-clause-reads g c = subst (λ d. SameState (g.D.Pm.words c.args.dev) (g.D.Pm.words d)) (sym c.with_memory.ensures.dev) c.in-Ok.ensures.reads

pub returns-in-Ok-clause-recovers : goal.returns-in-Ok-clause-recovers
returns-in-Ok-clause-recovers g c t lands = subst (λ d. Recovers t (g.D.Pm.words c.args.dev) (g.D.Pm.told c.args.dev) (g.D.Pm.told d) (g.D.Pm.words d)) (sym c.with_memory.ensures.dev) (c.in-Ok.ensures.recovers t lands)

pub returns-in-Ok-clause-cause : goal.returns-in-Ok-clause-cause
returns-in-Ok-clause-cause g c = no_fault (λ d. Rose (g.D.Pm.faults c.args.dev) (g.D.Pm.faults d)) c.with_memory.result c.with_memory.ensures.why

pub returns-in-Ok-clause-later : goal.returns-in-Ok-clause-later
returns-in-Ok-clause-later g c = subst (λ d. g.D.Pm.faults c.args.dev ≤ g.D.Pm.faults d) (sym c.with_memory.ensures.dev) c.in-Ok.ensures.later
