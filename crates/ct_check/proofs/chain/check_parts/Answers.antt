use Rattle.std.proofs.Common.{false, refl, arith}
use Rattle.std.proofs.lemmas.Bool.{both_ways}
use Rattle.ct_base.specs.Rules.{apart, mapped, placed, tails}
use Rattle.ct_placing.proofs.Collecting.{apart_in_order, in_order_apart}
use Rattle.ct_check.proofs.Order.{below_more, fails_first}
use Rattle.ct_check.proofs.chain.check_parts.Goals as goal

pub sorted_extents-requires-clause-placed : goal.sorted_extents-requires-clause-placed
sorted_extents-requires-clause-placed g c = c.requires.below placed (omega arith)

pub are_tails_zero-requires-clause-placed : goal.are_tails_zero-requires-clause-placed
are_tails_zero-requires-clause-placed g c = c.requires.below placed (omega arith)

pub are_mapped_in_parts-requires-clause-placed : goal.are_mapped_in_parts-requires-clause-placed
are_mapped_in_parts-requires-clause-placed g c = c.requires.below placed (omega arith)

pub are_mapped_in_parts-requires-clause-order : goal.are_mapped_in_parts-requires-clause-order
are_mapped_in_parts-requires-clause-order g c = c.if-not-are_in_order.ensures.0 refl

pub returns-then-not-are_in_order-clause-damage : goal.returns-then-not-are_in_order-clause-damage
returns-then-not-are_in_order-clause-damage g c =
    fails_first (g.D.Pm.words c.args.dev.now) apart c.requires.below (λ holds.
    both_ways false refl (c.if-not-are_in_order.ensures.1 (apart_in_order c.in-Ok.ensures.extents c.in-Ok.ensures.sorted holds)))

pub returns-then-not-are_tails_zero-clause-damage : goal.returns-then-not-are_tails_zero-clause-damage
returns-then-not-are_tails_zero-clause-damage g c =
    let w = g.D.Pm.words c.args.dev.now in
    let first = below_more w apart refl c.requires.below (in_order_apart c.in-Ok.ensures.extents (c.if-not-are_in_order.ensures.0 refl)) in
    fails_first w tails first (λ holds. both_ways false refl (c.if-not-are_tails_zero.ensures.1 holds))

pub returns-then-not-are_mapped_in_parts-clause-damage : goal.returns-then-not-are_mapped_in_parts-clause-damage
returns-then-not-are_mapped_in_parts-clause-damage g c =
    let w = g.D.Pm.words c.args.dev.now in
    let first = below_more w apart refl c.requires.below (in_order_apart c.in-Ok.ensures.extents (c.if-not-are_in_order.ensures.0 refl)) in
    let second = below_more w tails refl first (c.if-not-are_tails_zero.ensures.0 refl) in
    fails_first w mapped second (λ holds. both_ways false refl (c.if-not-are_mapped_in_parts.ensures.1 holds))

pub returns-clause-rules : goal.returns-clause-rules
returns-clause-rules g c =
    let w = g.D.Pm.words c.args.dev.now in
    let first = below_more w apart refl c.requires.below (in_order_apart c.in-Ok.ensures.extents (c.if-not-are_in_order.ensures.0 refl)) in
    let second = below_more w tails refl first (c.if-not-are_tails_zero.ensures.0 refl) in
    below_more w mapped refl second (c.if-not-are_mapped_in_parts.ensures.0 refl)
