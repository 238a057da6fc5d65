use Rattle.std.proofs.Common.{arith}
use Rattle.ct_base.specs.Wants.{missing}
use Rattle.ct_walk.proofs.absent.missing.Goals as goal

pub returns : goal.returns
unfolding missing
returns g c = omega (arith, c.missing_at.ensures.exact, c.missing_at-2.ensures.exact, c.missing_at-3.ensures.exact, c.missing_at-4.ensures.exact)
