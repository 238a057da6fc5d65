use Rattle.std.proofs.Common.{ℕ, ◌<◌, ◌≤◌}
use Rattle.ct_placing.specs.Heading.{IsPartShown}
use Rattle.ct_placing.proofs.headers.are_parts_shown.Given as goal

abbrev pub invariant-loop-n : goal.invariant-loop-n
invariant-loop-n g l = (i : ℕ) → 1 ≤ i → i < l.n → IsPartShown (g.D.Pm.words l.dev) i
