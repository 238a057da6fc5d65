use Rattle.std.proofs.Common.{Result, Ok, Err, sym, subst, ◌∙◌, arith}
use Rattle.ct_find.specs.Entries.{IsEntryAt}
use Rattle.ct_find.specs.Places.{IsPlaceOf, ShowsPlace}
use Rattle.ct_rename.proofs.find.find_form.Given.{Over}
use Rattle.ct_tree.specs.declared.call.Refusal.{Refusal}
use Rattle.ct_tree.specs.declared.call.Refusal.TheVariants.{NotFound}
use Rattle.ct_find.proofs.Fitting.{entry_live, entry_readable, leaf}
use Rattle.ct_rename.proofs.Checking.{missing_refused, new_passes, over_passes, paths_refused, same_passes, self_refused, place_refused}
use Rattle.ct_rename.proofs.Forming.{way_answer}
use Rattle.ct_rename.proofs.find.find_form.Goals as goal

abbrev failed : Refusal → Result (Unit {0}) Refusal
failed r = Err r

abbrev fits : Result (Unit {0}) Refusal
fits = Ok tt

pub returns-in-Err-clause-answer : goal.returns-in-Err-clause-answer
returns-in-Err-clause-answer g c t st = paths_refused c.args.path.now c.args.to.now t c.in-Err.ensures.answer

pub returns-in-Err-find_entry-clause-answer : goal.returns-in-Err-find_entry-clause-answer
returns-in-Err-find_entry-clause-answer g c t st = missing_refused c.in-Ok.ensures.below t (c.in-Err-find_entry.ensures.answer t st)

pub returns-in-Err-find_place-clause-answer : goal.returns-in-Err-find_place-clause-answer
returns-in-Err-find_place-clause-answer g c t st = let s = c.in-Ok-find_entry.ensures.answer t st in place_refused c.in-Ok.ensures.below t s.is (c.in-Err-find_place.ensures.answer t st)

pub returns-then-lies_below-clause-answer : goal.returns-then-lies_below-clause-answer
returns-then-lies_below-clause-answer g c t st =
    let s = c.in-Ok-find_entry.ensures.answer t st in self_refused c.in-Ok.ensures.below t s.is (c.in-Ok-find_place.ensures.answer t st) (sym c.lies_below.ensures ∙ c.if-lies_below.true)

pub returns-then-eq-clause-answer : goal.returns-then-eq-clause-answer
returns-then-eq-clause-answer g c t st =
    let s = c.in-Ok-find_entry.ensures.answer t st in same_passes c.in-Ok.ensures.below t s.is (c.in-Ok-find_place.ensures.answer t st) (sym c.lies_below.ensures ∙ c.if-lies_below.false) (sym c.eq.ensures ∙ c.if-eq.true)

module _ (g : Over) (c : goal.In-Taken g) where
  there : IsEntryAt (g.D.Pm.words c.args.dev.now) c.args.to.now c.in-Taken.there
  there = subst (IsPlaceOf (g.D.Pm.words c.args.dev.now) c.args.to.now) c.in-Taken.is c.in-Ok-find_place.ensures.place

pub get-gone-requires-clause-from : goal.get-gone-requires-clause-from
get-gone-requires-clause-from g c = (entry_live c.requires (there g c)).number.from

pub get-gone-requires-clause-to : goal.get-gone-requires-clause-to
get-gone-requires-clause-to g c = omega (arith, (entry_live c.requires (there g c)).number.to, c.requires.head.inodes.1)

pub kind_at-requires-clause-from : goal.kind_at-requires-clause-from
kind_at-requires-clause-from g c = (entry_live c.requires c.in-Ok-find_entry.ensures.entry).number.from

pub kind_at-requires-clause-to : goal.kind_at-requires-clause-to
kind_at-requires-clause-to g c = omega (arith, (entry_live c.requires c.in-Ok-find_entry.ensures.entry).number.to, c.requires.head.inodes.1)

pub check_kind-requires : goal.check_kind-requires
check_kind-requires g c kind = entry_readable c.requires (subst (IsPlaceOf (g.D.Pm.words c.args.dev.now) c.args.to.now) c.in-Taken.is c.in-Ok-find_place.ensures.place) c.get-gone.result c.get-gone.ensures kind

pub returns-in-Ok-check_kind-clause-answer : goal.returns-in-Ok-check_kind-clause-answer
returns-in-Ok-check_kind-clause-answer g c t st =
    let s = c.in-Ok-find_entry.ensures.answer t st in
    let u = subst (ShowsPlace (g.D.Pm.words c.args.dev.now) c.args.to.now t) c.in-Taken.is (c.in-Ok-find_place.ensures.node t st) in
    over_passes c.in-Ok.ensures.below t s.is (c.in-Ok-find_place.ensures.answer t st) (sym c.lies_below.ensures ∙ c.if-lies_below.false) (sym c.eq.ensures ∙ c.if-eq.false) fits u.is
    (way_answer c.requires c.in-Ok-find_entry.ensures.entry (subst (IsPlaceOf (g.D.Pm.words c.args.dev.now) c.args.to.now) c.in-Taken.is c.in-Ok-find_place.ensures.place) c.kind_at.result c.get-gone.result fits c.get-gone.ensures c.kind_at.ensures c.in-Ok-check_kind.ensures t s u)

pub returns-in-Err-check_kind-clause-answer : goal.returns-in-Err-check_kind-clause-answer
returns-in-Err-check_kind-clause-answer g c t st =
    let s = c.in-Ok-find_entry.ensures.answer t st in
    let u = subst (ShowsPlace (g.D.Pm.words c.args.dev.now) c.args.to.now t) c.in-Taken.is (c.in-Ok-find_place.ensures.node t st) in
    over_passes c.in-Ok.ensures.below t s.is (c.in-Ok-find_place.ensures.answer t st) (sym c.lies_below.ensures ∙ c.if-lies_below.false) (sym c.eq.ensures ∙ c.if-eq.false) (failed c.in-Err-check_kind.refusal) u.is
    (way_answer c.requires c.in-Ok-find_entry.ensures.entry (subst (IsPlaceOf (g.D.Pm.words c.args.dev.now) c.args.to.now) c.in-Taken.is c.in-Ok-find_place.ensures.place) c.kind_at.result c.get-gone.result (failed c.in-Err-check_kind.refusal) c.get-gone.ensures c.kind_at.ensures c.in-Err-check_kind.ensures t s u)

pub returns-in-Ok-check_kind-clause-form : goal.returns-in-Ok-check_kind-clause-form
returns-in-Ok-check_kind-clause-form g c =
    let there = subst (IsPlaceOf (g.D.Pm.words c.args.dev.now) c.args.to.now) c.in-Taken.is c.in-Ok-find_place.ensures.place in
    (sym c.eq.ensures ∙ c.if-eq.false, c.in-Ok-find_entry.ensures.entry, there, leaf c.requires there c.kind_at.result c.get-gone.result tt c.get-gone.ensures c.in-Ok-check_kind.ensures, c.get-gone.ensures)

pub returns-in-Free-clause-answer : goal.returns-in-Free-clause-answer
returns-in-Free-clause-answer g c t st =
    let s = c.in-Ok-find_entry.ensures.answer t st in
    let nothing = subst (ShowsPlace (g.D.Pm.words c.args.dev.now) c.args.to.now t) c.in-Free.is (c.in-Ok-find_place.ensures.node t st) in
    new_passes c.in-Ok.ensures.below t s.is (c.in-Ok-find_place.ensures.answer t st) (sym c.lies_below.ensures ∙ c.if-lies_below.false) (sym c.eq.ensures ∙ c.if-eq.false) nothing

pub returns-in-Free-clause-form : goal.returns-in-Free-clause-form
returns-in-Free-clause-form g c = (
  sym c.eq.ensures ∙ c.if-eq.false,
  c.in-Ok-find_entry.ensures.entry,
  subst (IsPlaceOf (g.D.Pm.words c.args.dev.now) c.args.to.now) c.in-Free.is c.in-Ok-find_place.ensures.place,
  λ t st. (NotFound, subst (ShowsPlace (g.D.Pm.words c.args.dev.now) c.args.to.now t) c.in-Free.is (c.in-Ok-find_place.ensures.node t st)),
)
