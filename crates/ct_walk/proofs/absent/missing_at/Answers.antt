use Rattle.ct_walk.proofs.Cells.{counted_start, counted_step, counted_end}
use Rattle.ct_walk.proofs.absent.missing_at.Goals as goal

pub loop-run-init : goal.loop-run-init
loop-run-init g c = counted_start (g.D.Pm.words c.args.dev.now) c.args.wants.now c.args.depth c.next_run-run.result c.next_run-run.ensures

pub loop-run-preserved : goal.loop-run-preserved
loop-run-preserved g c = counted_step c.absent_between-total.result c.loop-run.invariant c.absent_between-total.ensures.count c.absent_between-total.ensures.most c.next_run-run-in-loop-run.ensures

pub returns-clause-exact : goal.returns-clause-exact
returns-clause-exact g c = (counted_end c.loop-run.invariant c.loop-run-test.false).0

pub returns-clause-most : goal.returns-clause-most
returns-clause-most g c = (counted_end c.loop-run.invariant c.loop-run-test.false).1
