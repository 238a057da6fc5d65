use Rattle.std.proofs.Common.{take}
use Rattle.ct_walk.specs.Runs.{IsNearest}
use Rattle.ct_walk.proofs.wants.next_run.Given as goal

abbrev pub invariant-loop-want : goal.invariant-loop-want
invariant-loop-want l = IsNearest (take l.want-index l.wants) l.depth l.from l.run
