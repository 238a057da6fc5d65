use Rattle.std.proofs.Common.{◌-◌, ◌^◌}
use Rattle.ct_walk.proofs.Cells.{Counted}
use Rattle.ct_walk.proofs.absent.missing_at.Given as goal

abbrev pub invariant-loop-run : goal.invariant-loop-run
invariant-loop-run g l = Counted (g.D.Pm.words l.dev) l.wants l.depth l.total l.run

abbrev pub decreases-loop-run : goal.decreases-loop-run
decreases-loop-run g l = 512 ^ l.depth - l.run.first
