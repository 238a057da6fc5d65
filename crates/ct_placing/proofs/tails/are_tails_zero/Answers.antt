use Rattle.std.proofs.Common.{false, refl, arith}
use Rattle.std.proofs.lemmas.Bool.{both_ways}
use Rattle.ct_placing.proofs.tails.are_tails_zero.Goals as goal

pub returns-then-not-has_tail_zero : goal.returns-then-not-has_tail_zero
returns-then-not-has_tail_zero g c = (
  λ on. absurd (both_ways false refl on),
  λ all. c.if-not-has_tail_zero.ensures.1
      (λ used level. all c.loop-n.n (record { live = record { number = record { from = omega arith; to = omega (arith, c.load-n-end.ensures) }; used = used }; level = level })),
)
