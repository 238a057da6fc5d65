use Rattle.ct_walk.proofs.Clearing.{Clearing}
use Rattle.ct_walk.proofs.depths.clear_lowest.Given as goal

abbrev pub invariant-loop : goal.invariant-loop
invariant-loop g l =
    Clearing l.frames l.counter l.from (g.D.Pm.words l.fn.dev) (g.D.Pm.words l.dev) (g.D.Pm.told l.fn.dev) (g.D.Pm.told l.dev) (g.D.Pm.faults l.fn.dev) (g.D.Pm.faults l.dev)
