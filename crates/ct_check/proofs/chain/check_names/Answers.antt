use Rattle.std.proofs.Common.{refl, arith}
use Rattle.std.proofs.lemmas.Bool.{both_ways}
use Rattle.ct_base.specs.Rules.{named, names, placed, reached, slots}
use Rattle.ct_check.proofs.Order.{below_more, fails_first}
use Rattle.ct_check.proofs.chain.check_names.Goals as goal

pub are_names_apart-requires-clause-placed : goal.are_names_apart-requires-clause-placed
are_names_apart-requires-clause-placed g c = c.requires.below placed (omega arith)

pub are_names_apart-requires-clause-entries : goal.are_names_apart-requires-clause-entries
are_names_apart-requires-clause-entries g c = c.requires.below slots (omega arith)

pub are_named-requires-clause-placed : goal.are_named-requires-clause-placed
are_named-requires-clause-placed g c = c.requires.below placed (omega arith)

pub are_named-requires-clause-entries : goal.are_named-requires-clause-entries
are_named-requires-clause-entries g c = c.requires.below slots (omega arith)

pub are_reached-requires-clause-placed : goal.are_reached-requires-clause-placed
are_reached-requires-clause-placed g c = c.requires.below placed (omega arith)

pub are_reached-requires-clause-entries : goal.are_reached-requires-clause-entries
are_reached-requires-clause-entries g c = c.requires.below slots (omega arith)

pub returns-then-not-apart-clause-damage : goal.returns-then-not-apart-clause-damage
returns-then-not-apart-clause-damage g c = fails_first (g.D.Pm.words c.args.dev.now) names c.requires.below (λ holds. both_ways c.in-Ok.apart c.if-not-apart.true (c.in-Ok.ensures.1 holds))

pub returns-then-not-named-clause-damage : goal.returns-then-not-named-clause-damage
returns-then-not-named-clause-damage g c =
    let w = g.D.Pm.words c.args.dev.now in
    let first = below_more w names refl c.requires.below (c.in-Ok.ensures.0 c.if-not-apart.false) in
    fails_first w named first (λ holds. both_ways c.in-Ok-are_named.named c.if-not-named.true (c.in-Ok-are_named.ensures.1 holds))

pub returns-then-not-reached-clause-damage : goal.returns-then-not-reached-clause-damage
returns-then-not-reached-clause-damage g c =
    let w = g.D.Pm.words c.args.dev.now in
    let first = below_more w names refl c.requires.below (c.in-Ok.ensures.0 c.if-not-apart.false) in
    let second = below_more w named refl first (c.in-Ok-are_named.ensures.0 c.if-not-named.false) in
    fails_first w reached second (λ holds. both_ways c.in-Ok-are_reached.reached c.if-not-reached.true (c.in-Ok-are_reached.ensures.1 holds))

pub returns-clause-rules : goal.returns-clause-rules
returns-clause-rules g c =
    let w = g.D.Pm.words c.args.dev.now in
    let first = below_more w names refl c.requires.below (c.in-Ok.ensures.0 c.if-not-apart.false) in
    let second = below_more w named refl first (c.in-Ok-are_named.ensures.0 c.if-not-named.false) in
    below_more w reached refl second (c.in-Ok-are_reached.ensures.0 c.if-not-reached.false)
