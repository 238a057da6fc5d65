use Rattle.std.proofs.Common.{false, refl}
use Rattle.std.proofs.lemmas.Bool.{both_ways}
use Rattle.ct_base.specs.Rules.{inodes, placed}
use Rattle.ct_check.proofs.Order.{below_more, fails_first}
use Rattle.ct_check.proofs.chain.check_inodes.Goals as goal

pub returns-then-not-are_inodes-clause-damage : goal.returns-then-not-are_inodes-clause-damage
returns-then-not-are_inodes-clause-damage g c = fails_first (g.D.Pm.words c.args.dev.now) inodes c.requires.below (λ holds. both_ways false refl (c.if-not-are_inodes.ensures.1 holds))

pub returns-then-not-are_placed-clause-damage : goal.returns-then-not-are_placed-clause-damage
returns-then-not-are_placed-clause-damage g c =
    let w = g.D.Pm.words c.args.dev.now in
    fails_first w placed (below_more w inodes refl c.requires.below (c.if-not-are_inodes.ensures.0 refl)) (λ holds. both_ways false refl (c.if-not-are_placed.ensures.1 holds))

pub returns-clause-rules : goal.returns-clause-rules
returns-clause-rules g c =
    let w = g.D.Pm.words c.args.dev.now in
    below_more w placed refl (below_more w inodes refl c.requires.below (c.if-not-are_inodes.ensures.0 refl)) (c.if-not-are_placed.ensures.0 refl)
