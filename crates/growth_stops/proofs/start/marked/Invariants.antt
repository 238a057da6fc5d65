use Rattle.std.proofs.Common.{◌≡◌}
use Rattle.growth_stops.proofs.start.marked.Given as goal

abbrev pub invariant-loop-number : goal.invariant-loop-number
invariant-loop-number l = l.frames.pages ≡ 256
