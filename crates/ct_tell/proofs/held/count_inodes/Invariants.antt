use Rattle.std.proofs.Common.{◌-◌}
use Rattle.ct_base.specs.View.{view}
use Rattle.ct_tell.proofs.Counting.{IsSum}
use Rattle.ct_tell.proofs.held.count_inodes.Given as goal

-- the inodes before this one are counted
abbrev pub invariant-loop-n : goal.invariant-loop-n
invariant-loop-n g l = IsSum (view (g.D.Pm.words l.dev)) (l.n - 1) l.counts
