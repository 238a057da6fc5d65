use Rattle.std.proofs.Common.{ℕ, ◌≤◌, ◌<◌}
use Rattle.std.specs.Prelude.{◌↔◌, Contains}
use Rattle.growth_stops.proofs.start.are_alike.Given as goal

-- of the pages before this one the same are free
abbrev pub invariant-loop-number : goal.invariant-loop-number
invariant-loop-number l = (q : ℕ) → 34 ≤ q → q < l.number → Contains l.one.free q ↔ Contains l.other.free q
