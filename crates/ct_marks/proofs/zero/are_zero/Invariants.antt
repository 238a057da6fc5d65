use Rattle.std.proofs.Common.{◌≡◌, ℕ, ◌<◌, ◌≤◌}
use Rattle.ct_base.specs.Walk.{word}
use Rattle.ct_marks.proofs.zero.are_zero.Given as goal

abbrev pub invariant-loop-w : goal.invariant-loop-w
invariant-loop-w g l = (k : ℕ) → l.from ≤ k → k < l.w → word (g.D.Pm.words l.dev) k ≡ 0
