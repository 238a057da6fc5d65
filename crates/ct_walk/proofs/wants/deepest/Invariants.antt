use Rattle.std.proofs.Common.{take}
use Rattle.ct_walk.proofs.Deepening.{Reaches}
use Rattle.ct_walk.proofs.wants.deepest.Given as goal

abbrev pub invariant-loop-want : goal.invariant-loop-want
invariant-loop-want l = Reaches (take l.want-index l.wants) l.depth
