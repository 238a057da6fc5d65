use Rattle.std.proofs.Common.{◌≢◌, [], ◌∷◌, subst, rules}
use Rattle.ct_find.proofs.Spotting.{no_spot, spot_free, spot_taken}
use Rattle.ct_find.specs.Places.{ShowsPlace}
use Rattle.ct_find.proofs.spot.find_spot.Goals as goal

pub returns-in-Err-clause-answer : goal.returns-in-Err-clause-answer
returns-in-Err-clause-answer g c t st =
    let below : c.args.path.now ≢ 47 ∷ [] = search rules in
    no_spot c.args.path.now below t (c.in-Err.ensures.answer t st)

pub returns-in-Taken-clause-answer : goal.returns-in-Taken-clause-answer
returns-in-Taken-clause-answer g c t st =
    let below : c.args.path.now ≢ 47 ∷ [] = search rules in
    let there = subst (ShowsPlace (g.D.Pm.words c.args.dev.now) c.args.path.now t) c.in-Taken.is (c.in-Ok.ensures.node t st) in
    spot_taken c.args.path.now below t (c.in-Ok.ensures.answer t st) there.is

pub returns-in-Free-clause-answer : goal.returns-in-Free-clause-answer
returns-in-Free-clause-answer g c t st =
    let below : c.args.path.now ≢ 47 ∷ [] = search rules in
    let gone = subst (ShowsPlace (g.D.Pm.words c.args.dev.now) c.args.path.now t) c.in-Free.is (c.in-Ok.ensures.node t st) in
    spot_free c.args.path.now below t (c.in-Ok.ensures.answer t st) gone
