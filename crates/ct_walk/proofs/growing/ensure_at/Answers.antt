use Rattle.std.proofs.Common.{◌-◌, ◌/◌, arith}
use Rattle.ct_walk.specs.Has.{at_one}
use Rattle.ct_walk.proofs.OneWay.{going_start, going_step, going_room, covers_one, covers_page, covers_at, wanted_next}
use Rattle.ct_walk.proofs.Grows.{extends_then}
use Rattle.ct_walk.proofs.growing.ensure_at.Goals as goal

pub loop-depth-init : goal.loop-depth-init
loop-depth-init g c =
    going_start (g.D.Pm.words c.args.dev.now) (g.D.Pm.told c.args.dev.now) c.args.frames.now (g.D.Pm.faults c.args.dev.now) (c.get-n.result / 4096) (4 - c.args.height)
    c.requires.tables c.requires.agrees (g.met.D.Pm.replays c.args.dev.now) (omega (arith, c.get-n.ensures.bound))

pub ensure_level-requires-clause-room : goal.ensure_level-requires-clause-room
ensure_level-requires-clause-room g c =
    let wants = at_one c.args.height c.args.v in
    going_room wants c.loop-depth.invariant (covers_at wants c.get-n.result c.args.v (4 - c.args.height) c.get-n.ensures.value (covers_one c.args.height c.args.v c.requires.height))
    (omega arith) (omega arith) (omega (arith, c.get-n.ensures.bound)) c.requires.room

pub loop-depth-preserved : goal.loop-depth-preserved
loop-depth-preserved g c =
    going_step c.requires.tables c.loop-depth.invariant c.loop-depth-test.true (omega arith) c.in_ok-ensure_level.ensures.there c.ensure_level.ensures.extends c.in_ok-ensure_level.ensures.done
    c.ensure_level.ensures.cause.later (covers_page (c.get-n.result / 4096) (4 - c.args.height) (omega arith))

pub returns-in_err-ensure_level-clause-extends : goal.returns-in_err-ensure_level-clause-extends
returns-in_err-ensure_level-clause-extends g c wants covers =
    let own = covers_at wants c.get-n.result c.args.v (4 - c.args.height) c.get-n.ensures.value covers in
    extends_then c.requires.tables (c.loop-depth.invariant.extends wants own) (c.loop-depth.invariant.done wants own).settled
    (c.ensure_level.ensures.extends wants (wanted_next wants (c.get-n.result / 4096) (4 - c.args.height) c.loop-depth.depth own c.loop-depth-test.true (omega arith)))

pub returns-clause-extends : goal.returns-clause-extends
returns-clause-extends g c wants covers = c.loop-depth.invariant.extends wants (covers_at wants c.get-n.result c.args.v (4 - c.args.height) c.get-n.ensures.value covers)

pub returns-clause-done : goal.returns-clause-done
returns-clause-done g c wants covers = c.loop-depth.invariant.done wants (covers_at wants c.get-n.result c.args.v (4 - c.args.height) c.get-n.ensures.value covers)
