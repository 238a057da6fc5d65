use Rattle.std.proofs.Common.{rules, ◌+◌, ap, sym, ◌∙◌, arith, length}
use Rattle.ct_pieces.proofs.Steps.{width_le, pieces_from-step}
use Rattle.ct_pieces.proofs.PiecesIterator.next.Goals as goal

pub pow-requires : goal.pow-requires
pow-requires c = omega (arith, width_le c.greatest_height-height.result c.greatest_height-height.ensures.low)

pub overflow_add-self : goal.overflow_add-self
overflow_add-self c = omega (arith, c.greatest_height-height.ensures.inside c.if-self.false, c.pow.ensures)

pub invariant_of-self : goal.invariant_of-self
invariant_of-self c =
    (omega (arith, c.greatest_height-height.ensures.inside c.if-self.false, c.pow.ensures), c.self.invariant.1, c.self.invariant.2)

pub returns-clause-steps : goal.returns-clause-steps
returns-clause-steps c =
    sym c.self.view_is
    ∙ pieces_from-step c.self.inside.a c.self.inside.b c.self.inside.n c.self.inside.at c.greatest_height-height.result (c.self.inside.at + c.pow.result)
    c.if-self.false c.greatest_height-height.ensures.exact (ap (λ k. c.self.inside.at + k) (sym c.pow.ensures))

pub returns-clause-goes : goal.returns-clause-goes
returns-clause-goes c =
    let step = sym c.self.view_is
    ∙ pieces_from-step c.self.inside.a c.self.inside.b c.self.inside.n c.self.inside.at c.greatest_height-height.result (c.self.inside.at + c.pow.result)
    c.if-self.false c.greatest_height-height.ensures.exact (ap (λ k. c.self.inside.at + k) (sym c.pow.ensures)) in
    let shorter = ap length step in
    search rules
