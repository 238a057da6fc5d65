use Rattle.std.proofs.Common.{subst, sym}
use Rattle.std.specs.Prelude.{IfOk}
use Rattle.ct_base.specs.Causes.{Rose}
use Rattle.ct_base.specs.State.{SameState}
use Rattle.ct_base.specs.View.{inode_count}
use Rattle.ct_pm.specs.Images.{IsAllowed}
use Rattle.ct_tree.specs.Lands.{Lands}
use Rattle.mount_stops.specs.Stops.{Through, faults_before}
use Rattle.pm_trace.specs.Meaning.{faults_of, history, words_of}
use Rattle.ct_fs.proofs.Memory.{judged_by, keeps_by, no_fault, through_ready}
use Rattle.ct_fs.proofs.mounting.mount_through.Goals as goal

pub returns-in-Ok-clause-judged : goal.returns-in-Ok-clause-judged
returns-in-Ok-clause-judged c = judged_by (words_of c.args.dev) c.with_memory.result c.with_memory.ensures.why c.in-Ok.ensures.judged

pub returns-in-Ok-clause-keeps : goal.returns-in-Ok-clause-keeps
returns-in-Ok-clause-keeps c = keeps_by c.in-Ok.mounted (inode_count (words_of c.args.dev)) c.with_memory.result c.with_memory.ensures.ready c.in-Ok.ensures.holds

pub returns-in-Ok-clause-through : goal.returns-in-Ok-clause-through
returns-in-Ok-clause-through c = through_ready (λ d. Through c.args.stops.now (history c.args.dev) (history d)) c.in-Ok.mounted c.with_memory.result c.with_memory.ensures.ready c.in-Ok.ensures.through

pub returns-in-Ok-clause-images : goal.returns-in-Ok-clause-images
returns-in-Ok-clause-images c = subst (λ d. (image : _) → IsAllowed (history d) image → SameState (words_of c.args.dev) image) (sym c.with_memory.ensures.dev) c.in-Ok.ensures.images

pub returns-in-Ok-clause-lands : goal.returns-in-Ok-clause-lands
returns-in-Ok-clause-lands c t lands = subst (λ d. (image : _) → IsAllowed (history d) image → Lands image t) (sym c.with_memory.ensures.dev) (c.in-Ok.ensures.lands t lands)

pub returns-in-Ok-clause-cause : goal.returns-in-Ok-clause-cause
returns-in-Ok-clause-cause c = no_fault (λ d. Rose (faults_before c.args.stops.now c.args.dev) (faults_of d)) c.with_memory.result c.with_memory.ensures.why
