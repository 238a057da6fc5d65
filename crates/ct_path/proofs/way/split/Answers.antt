use Rattle.std.proofs.Common.{◌∷◌, sym, subst, ◌∙◌}
use Rattle.ct_tree.specs.Lands.{files}
use Rattle.ct_path.proofs.Sounds.{from_one, to_most, root_live, names_apart, kind_is}
use Rattle.ct_path.proofs.Parents.{Halfway, halfway_start, halfway_step, halfway_stop, halfway_dir, halfway_file}
use Rattle.ct_path.proofs.way.split.Goals as goal

pub loop-name-init : goal.loop-name-init
loop-name-init g c =
    let w = g.D.Pm.words c.args.dev.now in
    let all = c.args.first.now ∷ c.args.rest in
    subst (λ l. Halfway (files w) all c.args.first.now l 1) (sym c.into_iter-name-iterator.ensures.into_iter_gives)
    (halfway_start c.args.first.now c.args.rest (root_live w c.requires.sound c.requires.most c.requires.least) c.requires.valid)

pub get-dir-requires-clause-from : goal.get-dir-requires-clause-from
get-dir-requires-clause-from g c = from_one (g.D.Pm.words c.args.dev.now) c.requires.sound c.requires.most c.loop-name.number c.loop-name.invariant.ahead.live

pub get-dir-requires-clause-to : goal.get-dir-requires-clause-to
get-dir-requires-clause-to g c = to_most (g.D.Pm.words c.args.dev.now) c.requires.sound c.requires.most c.loop-name.number c.loop-name.invariant.ahead.live

pub returns-in_err-number-clause-finds : goal.returns-in_err-number-clause-finds
returns-in_err-number-clause-finds g c =
    let fs = files (g.D.Pm.words c.args.dev.now) in
    let all = c.args.first.now ∷ c.args.rest in
    halfway_stop fs all c.loop-name.last.now c.loop-name.number c.in-Some.name.now c.next.new.self c.from_residual.result c.in_err-number.field-0.0 c.from_residual.ensures.1
    (subst (λ l. Halfway fs all c.loop-name.last.now l c.loop-name.number) c.in-Some.ensures.steps c.loop-name.invariant) c.in_err-number.ensures.meets

pub loop-name-preserved : goal.loop-name-preserved
loop-name-preserved g c =
    let w = g.D.Pm.words c.args.dev.now in
    let all = c.args.first.now ∷ c.args.rest in
    halfway_step (files w) all c.loop-name.last.now c.loop-name.number (names_apart w c.requires.sound c.requires.most) c.in-Some.name.now c.next.new.self c.in_ok-number.number
    (subst (λ l. Halfway (files w) all c.loop-name.last.now l c.loop-name.number) c.in-Some.ensures.steps c.loop-name.invariant) c.in_ok-number.ensures.meets c.in_ok-number.ensures.live

pub returns-clause-finds : goal.returns-clause-finds
returns-clause-finds g c =
    let w = g.D.Pm.words c.args.dev.now in
    let all = c.args.first.now ∷ c.args.rest in
    let kind = kind_is w c.requires.sound c.requires.most c.loop-name.number c.loop-name.invariant.ahead.live c.get-dir.result c.get-dir.ensures in
    halfway_file (subst (λ l. Halfway (files w) all c.loop-name.last.now l c.loop-name.number) c.in-None.ensures.steps.0 c.loop-name.invariant) (λ dir. c.if-dir-eq-DIRECTORY_KIND.false (kind ∙ dir))

pub returns-then-dir-eq-DIRECTORY_KIND-clause-finds : goal.returns-then-dir-eq-DIRECTORY_KIND-clause-finds
returns-then-dir-eq-DIRECTORY_KIND-clause-finds g c =
    let w = g.D.Pm.words c.args.dev.now in
    let all = c.args.first.now ∷ c.args.rest in
    let kind = kind_is w c.requires.sound c.requires.most c.loop-name.number c.loop-name.invariant.ahead.live c.get-dir.result c.get-dir.ensures in
    halfway_dir c.loop-name.last (subst (λ l. Halfway (files w) all c.loop-name.last.now l c.loop-name.number) c.in-None.ensures.steps.0 c.loop-name.invariant) (sym kind ∙ c.if-dir-eq-DIRECTORY_KIND.true)
