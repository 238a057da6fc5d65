use Rattle.std.proofs.Common.{◌≢◌, ◌+◌, ◌/◌, false, refl, arith}
use Rattle.std.proofs.lemmas.Bool.{both_ways}
use Rattle.ct_base.specs.Walk.{page_at}
use Rattle.ct_dir.proofs.Held.{laid}
use Rattle.ct_naming.proofs.Meeting.{lies, look_absent, look_empty, look_used}
use Rattle.ct_naming.proofs.slot.look_at.Goals as goal

pub absent_from-absent-requires-clause-within : goal.absent_from-absent-requires-clause-within
absent_from-absent-requires-clause-within g c = let l = laid c.requires.placed (omega (arith, c.requires.below)) in omega (arith, l.high)

pub place_of-place-requires-clause-high : goal.place_of-place-requires-clause-high
place_of-place-requires-clause-high g c = let l = laid c.requires.placed (omega (arith, c.requires.below)) in omega (arith, l.high, c.requires.below)

pub returns-then-absent-gt0 : goal.returns-then-absent-gt0
returns-then-absent-gt0 g c =
    let r = c.requires in
    let l = lies r.tables (g.met.D.Pm.words_fit c.args.dev.now) r.placed r.kind r.aligned r.below in
    look_absent l r.placed c.absent_from-absent.result _ (omega arith) (omega (arith, l.laid.aligned)) c.absent_from-absent.ensures.absent

pub returns-then-are_zero : goal.returns-then-are_zero
returns-then-are_zero g c =
    let r = c.requires in
    let w = g.D.Pm.words c.args.dev.now in
    let l = lies r.tables (g.met.D.Pm.words_fit c.args.dev.now) r.placed r.kind r.aligned r.below in
    let there : page_at w 4 ((c.args.dir.base + c.args.at) / 4096) ≢ 0 = c.absent_from-absent.ensures.present (omega arith) in
    look_empty l r.kind c.place_of-place.result c.place_of-place.ensures.value there (c.if-are_zero.ensures.0 refl)

pub returns : goal.returns
returns g c =
    let r = c.requires in
    let w = g.D.Pm.words c.args.dev.now in
    let l = lies r.tables (g.met.D.Pm.words_fit c.args.dev.now) r.placed r.kind r.aligned r.below in
    let there : page_at w 4 ((c.args.dir.base + c.args.at) / 4096) ≢ 0 = c.absent_from-absent.ensures.present (omega arith) in
    look_used l r.kind c.place_of-place.result c.place_of-place.ensures.value there (λ zeros. both_ways false refl (c.if-are_zero.ensures.1 zeros))
