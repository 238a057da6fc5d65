use Rattle.ct_base.specs.Settled.{HaveTargets}
use Rattle.record_stops.proofs.has_targets.Given as goal

abbrev pub invariant-loop-i : goal.invariant-loop-i
invariant-loop-i g l = HaveTargets l.from l.i (g.D.Pm.words l.dev)
