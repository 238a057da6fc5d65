use Rattle.std.proofs.Common.{arith}
use Rattle.ct_parts.proofs.Path.{number_small}
use Rattle.ct_header.proofs.address.header_address.Goals as goal

pub overflow_mul-slot : goal.overflow_mul-slot
overflow_mul-slot c = let s = number_small c.args.level c.args.number c.requires.low c.requires.number in omega (arith, s.0)

pub overflow_add-slot : goal.overflow_add-slot
overflow_add-slot c = let s = number_small c.args.level c.args.number c.requires.low c.requires.number in omega (arith, s.0)

pub overflow_add-result : goal.overflow_add-result
overflow_add-result c = let s = number_small c.args.level c.args.number c.requires.low c.requires.number in omega (arith, s.0)

pub overflow_add-result-2 : goal.overflow_add-result-2
overflow_add-result-2 c = let s = number_small c.args.level c.args.number c.requires.low c.requires.number in omega (arith, s.0)

pub returns-clause-last : goal.returns-clause-last
returns-clause-last c = let s = number_small c.args.level c.args.number c.requires.low c.requires.number in omega (arith, s.1)

pub returns-then-level-eq1-clause-last : goal.returns-then-level-eq1-clause-last
returns-then-level-eq1-clause-last c = let s = number_small c.args.level c.args.number c.requires.low c.requires.number in omega (arith, s.0)
