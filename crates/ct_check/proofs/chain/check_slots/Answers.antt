use Rattle.std.proofs.Common.{false, refl, arith}
use Rattle.std.proofs.lemmas.Bool.{both_ways}
use Rattle.ct_base.specs.Rules.{placed, rest, slots}
use Rattle.ct_check.proofs.Order.{below_more, fails_first}
use Rattle.ct_check.proofs.chain.check_slots.Goals as goal

pub are_entries-requires-clause-placed : goal.are_entries-requires-clause-placed
are_entries-requires-clause-placed g c = c.requires.below placed (omega arith)

pub returns-then-not-is_rest_zero-clause-damage : goal.returns-then-not-is_rest_zero-clause-damage
returns-then-not-is_rest_zero-clause-damage g c = fails_first (g.D.Pm.words c.args.dev.now) rest c.requires.below (λ holds. both_ways false refl (c.if-not-is_rest_zero.ensures.1 holds))

pub returns-then-not-are_entries-clause-damage : goal.returns-then-not-are_entries-clause-damage
returns-then-not-are_entries-clause-damage g c =
    let w = g.D.Pm.words c.args.dev.now in
    fails_first w slots (below_more w rest refl c.requires.below (c.if-not-is_rest_zero.ensures.0 refl)) (λ holds. both_ways false refl (c.if-not-are_entries.ensures.1 holds))

pub returns-clause-rules : goal.returns-clause-rules
returns-clause-rules g c =
    let w = g.D.Pm.words c.args.dev.now in
    below_more w slots refl (below_more w rest refl c.requires.below (c.if-not-is_rest_zero.ensures.0 refl)) (c.if-not-are_entries.ensures.0 refl)
