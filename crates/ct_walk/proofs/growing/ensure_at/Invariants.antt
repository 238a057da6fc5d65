use Rattle.std.proofs.Common.{◌-◌}
use Rattle.ct_walk.proofs.OneWay.{Going}
use Rattle.ct_walk.proofs.growing.ensure_at.Given as goal

abbrev pub invariant-loop-depth : goal.invariant-loop-depth
invariant-loop-depth g l =
    Going (g.D.Pm.words l.fn.dev) (g.D.Pm.words l.dev) (g.D.Pm.told l.fn.dev) (g.D.Pm.told l.dev) l.fn.frames l.frames (g.D.Pm.faults l.fn.dev) (g.D.Pm.faults l.dev) l.n (4 - l.height) l.depth
