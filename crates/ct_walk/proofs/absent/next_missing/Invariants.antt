use Rattle.std.proofs.Common.{◌-◌, ◌^◌}
use Rattle.ct_walk.proofs.Finding.{Seeking}
use Rattle.ct_walk.proofs.absent.next_missing.Given as goal

abbrev pub invariant-loop-run : goal.invariant-loop-run
invariant-loop-run g l = Seeking (g.D.Pm.words l.dev) l.wants l.depth l.from l.run

abbrev pub decreases-loop-run : goal.decreases-loop-run
decreases-loop-run g l = 512 ^ l.depth - l.run.first
