use Rattle.ct_base.specs.Settled.{HaveTargets}
use Rattle.ct_check.proofs.head.have_targets.Given as goal

abbrev pub invariant-loop-k : goal.invariant-loop-k
invariant-loop-k g l = HaveTargets l.from l.k (g.D.Pm.words l.dev)
