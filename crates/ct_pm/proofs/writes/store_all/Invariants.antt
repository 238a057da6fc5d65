use Rattle.std.proofs.Common.{◌≤◌}
use Rattle.ct_pm.proofs.Laying.{StoredSoFar}
use Rattle.ct_pm.proofs.writes.store_all.Given as goal

abbrev pub invariant-loop-i : goal.invariant-loop-i
invariant-loop-i g l =
    StoredSoFar l.first l.values l.i (g.D.Pm.words l.initial.dev) (g.D.Pm.words l.dev) (g.D.Pm.told l.initial.dev) (g.D.Pm.told l.dev) × (g.D.Pm.faults l.initial.dev ≤ g.D.Pm.faults l.dev)
