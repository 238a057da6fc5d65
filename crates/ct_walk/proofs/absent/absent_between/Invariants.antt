use Rattle.std.proofs.Common.{◌≡◌, ◌+◌, ◌-◌, ◌≤◌}
use Rattle.ct_walk.specs.Runs.{absent_below}
use Rattle.ct_walk.proofs.absent.absent_between.Given as goal

abbrev pub invariant-loop-x : goal.invariant-loop-x
invariant-loop-x g l = record {
  low : l.from ≤ l.x;
  high : l.x ≤ l.to;
  counted : l.total + absent_below (g.D.Pm.words l.dev) l.depth l.from ≡ absent_below (g.D.Pm.words l.dev) l.depth l.x;
  most : l.total + l.from ≤ l.x;
}

abbrev pub decreases-loop-x : goal.decreases-loop-x
decreases-loop-x g l = l.to - l.x
