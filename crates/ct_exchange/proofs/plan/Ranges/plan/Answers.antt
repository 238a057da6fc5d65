use Rattle.std.proofs.Common.{arith}
use Rattle.ct_exchange.proofs.Carrying.{placed}
use Rattle.ct_exchange.proofs.plan.Ranges.plan.Goals as goal

pub both_sides-wants-requires-clause-first : goal.both_sides-wants-requires-clause-first
both_sides-wants-requires-clause-first g c =
    let p = placed c.requires.rest (c.requires.can (omega (arith, c.if-self-eq0.false))) in
    omega (arith, p.first_high, c.pages-a.ensures.first, c.pages-a.ensures.count)

pub both_sides-wants-requires-clause-second : goal.both_sides-wants-requires-clause-second
both_sides-wants-requires-clause-second g c =
    let p = placed c.requires.rest (c.requires.can (omega (arith, c.if-self-eq0.false))) in
    omega (arith, p.second_high, c.pages-a.ensures.second, c.pages-a.ensures.count)
