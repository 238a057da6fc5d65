use Rattle.std.proofs.Common.{◌≤◌, arith}
use Rattle.ct_walk.specs.Has.{at_one}
use Rattle.ct_walk.proofs.OneWay.{covers_one, there_result, taken_result, agrees_result, settled_result}
use Rattle.ct_walk.proofs.growing.ensure.Goals as goal

pub returns-clause-there : goal.returns-clause-there
returns-clause-there g c =
    there_result (g.D.Pm.words c.args.dev.now) (g.D.Pm.words c.ensure_at.new.dev) (g.D.Pm.told c.args.dev.now) (g.D.Pm.told c.ensure_at.new.dev) c.args.frames.now c.ensure_at.new.frames g.row.K c.args.v
    (omega (arith, c.requires.height)) c.ensure_at.result c.ensure_at.ensures.there

pub returns-clause-taken : goal.returns-clause-taken
returns-clause-taken g c =
    taken_result (g.D.Pm.words c.args.dev.now) (g.D.Pm.words c.ensure_at.new.dev) (g.D.Pm.told c.args.dev.now) (g.D.Pm.told c.ensure_at.new.dev) c.args.frames.now c.ensure_at.new.frames g.row.K c.args.v
    (omega (arith, c.requires.height)) c.ensure_at.result c.ensure_at.ensures.there c.ensure_at.ensures.done

pub returns-clause-agrees : goal.returns-clause-agrees
returns-clause-agrees g c =
    agrees_result (g.D.Pm.words c.args.dev.now) (g.D.Pm.words c.ensure_at.new.dev) (g.D.Pm.told c.args.dev.now) (g.D.Pm.told c.ensure_at.new.dev) c.args.frames.now c.ensure_at.new.frames g.row.K c.args.v
    (omega (arith, c.requires.height)) c.ensure_at.result c.ensure_at.ensures.done

pub returns-clause-settled : goal.returns-clause-settled
returns-clause-settled g c =
    settled_result (g.D.Pm.words c.args.dev.now) (g.D.Pm.words c.ensure_at.new.dev) (g.D.Pm.told c.args.dev.now) (g.D.Pm.told c.ensure_at.new.dev) c.args.frames.now c.ensure_at.new.frames g.row.K c.args.v
    (omega (arith, c.requires.height)) c.ensure_at.result c.ensure_at.ensures.done

pub returns-clause-extends : goal.returns-clause-extends
returns-clause-extends g c =
    let le : g.row.K ≤ 4 = omega (arith, c.requires.height) in
    c.ensure_at.ensures.extends (at_one g.row.K c.args.v) (covers_one g.row.K c.args.v le)
