use Rattle.std.proofs.Common.{◌∙◌, sym, inl, inr, arith}
use Rattle.std.proofs.lemmas.Bool.{cases_eq}
use Rattle.growth_stops.proofs.Growable.{same_page}
use Rattle.growth_stops.proofs.start.are_alike.Goals as goal

pub loop-number-preserved : goal.loop-number-preserved
loop-number-preserved c q low high = elim (cases_eq q c.loop-number.number) [
  | inl here ↦ same_page c.is_free.result c.is_free-in-loop-number.result c.args.one.now.free c.args.other.now.free c.new-page.result q c.is_free.ensures c.is_free-in-loop-number.ensures c.if-is_free.false (here ∙ sym c.new-page.ensures)
  | inr other ↦ c.loop-number.invariant q low (omega (arith, other, high))
]

pub returns : goal.returns
returns c holds q = (
  λ here. let at = c.free.ensures.in_range q here in (c.loop-number.invariant q at.0 (omega (arith, at.1, c.requires.one))).0 here,
  λ there. let at = c.free-2.ensures.in_range q there in (c.loop-number.invariant q at.0 (omega (arith, at.1, c.requires.other))).1 there,
)
