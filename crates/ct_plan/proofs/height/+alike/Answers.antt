use Rattle.std.proofs.Common.{sym, ◌∙◌, arith}
use Rattle.ct_pieces.proofs.Steps.{width_le, width_pos}
use Rattle.ct_plan.proofs.Blocks.{alike-none, alike-here, alike-lower}
use Rattle.ct_plan.proofs.height.+alike.Goals as goal

pub returns-then-top-eq0-clause-exact : goal.returns-then-top-eq0-clause-exact
returns-then-top-eq0-clause-exact t c = sym (alike-none c.args.top c.args.a c.args.b c.if-top-eq0.true)

pub pow-width-requires : goal.pow-width-requires
pow-width-requires t c = omega (arith, width_le c.args.top c.requires)

pub nonzero_rem-a : goal.nonzero_rem-a
nonzero_rem-a t c = omega (arith, width_pos c.args.top, c.pow-width.ensures)

pub nonzero_rem-b : goal.nonzero_rem-b
nonzero_rem-b t c = omega (arith, width_pos c.args.top, c.pow-width.ensures)

pub returns-then-a-width-clause-exact : goal.returns-then-a-width-clause-exact
returns-then-a-width-clause-exact t c =
    let e = c.pow-width.ensures in
    sym (alike-here c.args.top c.args.a c.args.b c.if-top-eq0.false (rw e at c.if-a-width.true))

pub returns-else-a-width-clause-exact : goal.returns-else-a-width-clause-exact
returns-else-a-width-clause-exact t c =
    let e = c.pow-width.ensures in
    c.alike.ensures.exact ∙ alike-lower c.args.top _ c.args.a c.args.b (omega arith) (rw e at c.if-a-width.false)
