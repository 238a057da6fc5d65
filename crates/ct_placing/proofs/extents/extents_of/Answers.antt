use Rattle.std.proofs.Common.{arith}
use Rattle.ct_placing.proofs.Collecting.{collect_all}
use Rattle.ct_placing.proofs.extents.extents_of.Goals as goal

pub returns : goal.returns
returns g c = collect_all c.loop-n.invariant (omega (arith, c.load-n-end.ensures))
