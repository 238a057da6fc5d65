use Rattle.std.proofs.Common.{◌≡◌}
use Rattle.ct_walk.specs.Depths.{without_lowest}
use Rattle.ct_walk.proofs.depths.take_lowest.Given as goal

abbrev pub invariant-loop : goal.invariant-loop
invariant-loop l = l.frames ≡ without_lowest l.counter l.fn.frames
