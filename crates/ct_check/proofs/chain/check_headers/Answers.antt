use Rattle.std.proofs.Common.{refl, arith}
use Rattle.std.proofs.lemmas.Bool.{both_ways}
use Rattle.ct_base.specs.Rules.{apart, headers, placed}
use Rattle.ct_check.proofs.Order.{below_more, fails_first}
use Rattle.ct_check.proofs.chain.check_headers.Goals as goal

pub are_headers-requires-clause-placed : goal.are_headers-requires-clause-placed
are_headers-requires-clause-placed g c = c.requires.below placed (omega arith)

pub are_headers-requires-clause-apart : goal.are_headers-requires-clause-apart
are_headers-requires-clause-apart g c = c.requires.below apart (omega arith)

pub returns-then-not-right-clause-damage : goal.returns-then-not-right-clause-damage
returns-then-not-right-clause-damage g c = fails_first (g.D.Pm.words c.args.dev.now) headers c.requires.below (λ holds. both_ways c.in-Ok.right c.if-not-right.true (c.in-Ok.ensures.1 holds))

pub returns-clause-rules : goal.returns-clause-rules
returns-clause-rules g c = below_more (g.D.Pm.words c.args.dev.now) headers refl c.requires.below (c.in-Ok.ensures.0 c.if-not-right.false)
