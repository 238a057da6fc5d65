use Rattle.std.proofs.Common.{subst, sym}
use Rattle.ct_tree.specs.Lands.{files}
use Rattle.ct_path.specs.Meets.{Ahead}
use Rattle.ct_path.proofs.Sounds.{root_live, names_apart}
use Rattle.ct_path.proofs.Ways.{ahead_start, ahead_step, stop_at, ahead_end}
use Rattle.ct_path.proofs.way.follow.Goals as goal

pub loop-name-init : goal.loop-name-init
loop-name-init g c =
    let fs = files (g.D.Pm.words c.args.dev.now) in
    subst (λ l. Ahead fs c.args.names l 1) (sym c.into_iter-name-iterator.ensures.into_iter_gives) (ahead_start c.args.names (root_live (g.D.Pm.words c.args.dev.now) c.requires.sound c.requires.most c.requires.least))

pub loop-name-preserved : goal.loop-name-preserved
loop-name-preserved g c =
    let fs = files (g.D.Pm.words c.args.dev.now) in
    let m = c.in_ok-number.ensures.meets in
    ahead_step fs c.args.names c.loop-name.number c.in-Some.name.now c.next.new.self (names_apart (g.D.Pm.words c.args.dev.now) c.requires.sound c.requires.most) c.in_ok-number.number m.0 m.1 m.2
    (subst (λ l. Ahead fs c.args.names l c.loop-name.number) c.in-Some.ensures.steps c.loop-name.invariant) c.in_ok-number.ensures.live

pub returns-clause-follows : goal.returns-clause-follows
returns-clause-follows g c =
    ahead_end (subst (λ l. Ahead (files (g.D.Pm.words c.args.dev.now)) c.args.names l c.loop-name.number) c.in-None.ensures.steps.0 c.loop-name.invariant)

pub returns-in_err-number-clause-follows : goal.returns-in_err-number-clause-follows
returns-in_err-number-clause-follows g c =
    let fs = files (g.D.Pm.words c.args.dev.now) in
    stop_at fs c.args.names c.loop-name.number c.in-Some.name.now c.next.new.self c.from_residual.result c.in_err-number.field-0.0 c.from_residual.ensures.1
    (subst (λ l. Ahead fs c.args.names l c.loop-name.number) c.in-Some.ensures.steps c.loop-name.invariant) c.in_err-number.ensures.meets
