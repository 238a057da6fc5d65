use Rattle.std.proofs.Common.{arith}
use Rattle.ct_walk.proofs.Grows.{extends_then}
use Rattle.ct_walk.proofs.Deepening.{deepening_start, deepening_above, deepening_room, deepening_step, deepening_there, deepening_taken}
use Rattle.ct_walk.proofs.depths.ensure_all.Goals as goal

pub loop-depth-init : goal.loop-depth-init
loop-depth-init g c =
    deepening_start (g.D.Pm.words c.args.dev.now) (g.D.Pm.told c.args.dev.now) c.args.frames.now (g.D.Pm.faults c.args.dev.now) c.args.wants.now c.requires.tables c.requires.agrees (g.met.D.Pm.replays c.args.dev.now)

pub ensure_depth-requires-clause-above : goal.ensure_depth-requires-clause-above
ensure_depth-requires-clause-above g c = deepening_above c.loop-depth.invariant (omega arith) (omega arith)

pub ensure_depth-requires-clause-room : goal.ensure_depth-requires-clause-room
ensure_depth-requires-clause-room g c = deepening_room c.loop-depth.invariant (omega arith) (omega arith) c.requires.room

pub returns-in_err-ensure_depth-clause-extends : goal.returns-in_err-ensure_depth-clause-extends
returns-in_err-ensure_depth-clause-extends g c = extends_then c.requires.tables c.loop-depth.invariant.extends c.loop-depth.invariant.done.settled c.ensure_depth.ensures.extends

pub loop-depth-preserved : goal.loop-depth-preserved
loop-depth-preserved g c =
    deepening_step c.requires.tables c.loop-depth.invariant (omega arith) c.in_ok-ensure_depth.ensures.there c.ensure_depth.ensures.extends c.in_ok-ensure_depth.ensures.done c.ensure_depth.ensures.cause.later

pub returns-clause-there : goal.returns-clause-there
returns-clause-there g c = deepening_there c.loop-depth.invariant c.deepest-past.result c.deepest-past.ensures.covers (omega arith) c.deepest-past.ensures.in_range

pub returns-clause-taken : goal.returns-clause-taken
returns-clause-taken g c = deepening_taken c.loop-depth.invariant c.deepest-past.result c.deepest-past.ensures.covers (omega arith)
