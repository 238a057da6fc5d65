use Rattle.std.proofs.Common.{◌≡◌, ℕ, ◌<◌}
use Rattle.ct_placing.specs.Heading.{byte_of}
use Rattle.ct_placing.proofs.headers.are_slots_shown.Given as goal

abbrev pub invariant-loop-slot : goal.invariant-loop-slot
invariant-loop-slot g l = (j : ℕ) → j < l.slot → byte_of (g.D.Pm.words l.dev) 9 j ≡ 48
