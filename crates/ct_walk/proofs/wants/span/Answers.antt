use Rattle.std.proofs.Common.{◌-◌, arith}
use Rattle.ct_walk.proofs.Cells.{pow_few}
use Rattle.ct_walk.proofs.wants.span.Goals as goal

pub pow-requires : goal.pow-requires
pow-requires c = omega (arith, pow_few (4 - c.args.depth) (omega arith))

pub overflow_mul-result : goal.overflow_mul-result
overflow_mul-result c = omega (arith, c.pow.ensures, pow_few (4 - c.args.depth) (omega arith))

pub returns-clause-some : goal.returns-clause-some
returns-clause-some c = omega (arith, c.pow.ensures, pow_few (4 - c.args.depth) (omega arith))

pub returns-clause-most : goal.returns-clause-most
returns-clause-most c = omega (arith, c.pow.ensures, pow_few (4 - c.args.depth) (omega arith))
