use Rattle.std.proofs.Common.{false, refl, arith}
use Rattle.std.proofs.lemmas.Bool.{both_ways}
use Rattle.ct_placing.proofs.headers.are_parts_shown.Goals as goal

pub returns-then-not-is_part_shown : goal.returns-then-not-is_part_shown
returns-then-not-is_part_shown g c = (
  λ on. absurd (both_ways false refl on),
  λ all. c.if-not-is_part_shown.ensures.1 (all c.loop-n.n (omega arith) (omega (arith, c.load-n-end.ensures))),
)
