use Rattle.std.proofs.Common.{◌≤◌}
use Rattle.ct_walk.proofs.Zeros.{ZeroSoFar}
use Rattle.ct_walk.proofs.growing.zero_words.Given as goal

abbrev pub invariant-loop-i : goal.invariant-loop-i
invariant-loop-i g l = record {
  so_far : ZeroSoFar l.first l.n l.i (g.D.Pm.words l.initial.dev) (g.D.Pm.words l.dev) (g.D.Pm.told l.initial.dev) (g.D.Pm.told l.dev);
  faults : g.D.Pm.faults l.initial.dev ≤ g.D.Pm.faults l.dev;
}
