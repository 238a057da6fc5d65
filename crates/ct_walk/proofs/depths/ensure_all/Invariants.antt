use Rattle.ct_walk.proofs.Deepening.{Deepening}
use Rattle.ct_walk.proofs.depths.ensure_all.Given as goal

abbrev pub invariant-loop-depth : goal.invariant-loop-depth
invariant-loop-depth g l =
    Deepening (g.D.Pm.words l.fn.dev) (g.D.Pm.words l.dev) (g.D.Pm.told l.fn.dev) (g.D.Pm.told l.dev) l.fn.frames l.frames (g.D.Pm.faults l.fn.dev) (g.D.Pm.faults l.dev) l.wants l.depth
