use Rattle.std.proofs.Common.{◌≡◌, ℕ, ◌<◌, ◌≤◌}
use Rattle.ct_base.specs.Walk.{byte}
use Rattle.ct_placing.proofs.tails.are_bytes_zero.Given as goal

abbrev pub invariant-loop-a : goal.invariant-loop-a
invariant-loop-a g l = (v : ℕ) → l.from ≤ v → v < l.a → byte (g.D.Pm.words l.dev) v ≡ 0
