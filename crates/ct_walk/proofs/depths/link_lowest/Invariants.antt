use Rattle.std.proofs.Common.{◌-◌}
use Rattle.ct_walk.proofs.Linking.{Linking}
use Rattle.ct_walk.proofs.depths.link_lowest.Given as goal

abbrev pub invariant-loop : goal.invariant-loop
invariant-loop g l =
    Linking l.frames l.counter l.count l.from l.cell (g.D.Pm.words l.fn.dev) (g.D.Pm.words l.dev) l.wants (l.depth - 1) (g.D.Pm.told l.fn.dev) (g.D.Pm.told l.dev) (g.D.Pm.faults l.fn.dev) (g.D.Pm.faults l.dev)
