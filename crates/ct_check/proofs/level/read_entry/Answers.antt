use Rattle.std.proofs.Common.{ap, sym, subst, ◌∙◌, refl, arith}
use Rattle.std.specs.Prelude.{◌||◌}
use Rattle.ct_image.proofs.Steps.{next-bounds}
use Rattle.ct_marks.specs.Marks.{is_marked, Marked}
use Rattle.ct_check.proofs.Reading.{empty_entry, reads_skip, reads_found, bad_entry}
use Rattle.ct_check.proofs.level.read_entry.Goals as goal

pub returns-in-None-clause-stops : goal.returns-in-None-clause-stops
returns-in-None-clause-stops g c = λ d deep at. bad_entry c.requires.index deep at c.in-None.ensures.none.0 c.in-None.ensures.none.1

pub meet-requires-clause-next : goal.meet-requires-clause-next
meet-requires-clause-next g c =
    let is = c.in-Some.ensures.some.0 in
    omega (arith, c.requires.next, c.requires.pages, is, next-bounds (g.D.Pm.words c.args.dev.now) c.args.table c.args.i (λ none. c.if-page-eq0.false (is ∙ none)))

pub meet-requires-clause-met : goal.meet-requires-clause-met
meet-requires-clause-met g c =
    let is = c.in-Some.ensures.some.0 in
    omega (arith, c.requires.met, c.requires.pages, is, next-bounds (g.D.Pm.words c.args.dev.now) c.args.table c.args.i (λ none. c.if-page-eq0.false (is ∙ none)))

pub returns-then-page-eq0-clause-reads : goal.returns-then-page-eq0-clause-reads
returns-then-page-eq0-clause-reads g c = λ d at.
    let some = c.in-Some.ensures.some in
    reads_skip (empty_entry c.args.table c.args.i c.requires.index refl refl (sym some.0 ∙ c.if-page-eq0.true) (some.1 c.if-page-eq0.true))

pub returns-else-page-eq0-clause-reads : goal.returns-else-page-eq0-clause-reads
returns-else-page-eq0-clause-reads g c = λ d at.
    let is = c.in-Some.ensures.some.0 in
    reads_found c.args.table c.args.i c.requires.index refl refl at (λ none. c.if-page-eq0.false (is ∙ none))
    (subst (λ p. Marked p c.args.next.now.items c.meet.new.next.items) is c.meet.ensures.next)
    (subst (λ p. Marked p c.args.met.now.pages.items c.meet.new.met.pages.items) is c.meet.ensures.met)
    (c.meet.ensures.twice ∙ ap (λ p. c.args.met.now.twice || is_marked c.args.met.now.pages.items p) is)
