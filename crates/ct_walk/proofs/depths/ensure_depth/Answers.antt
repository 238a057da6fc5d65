use Rattle.ct_walk.proofs.Grows.{extends_none}
use Rattle.ct_walk.proofs.depths.ensure_depth.Goals as goal

pub returns-then-count-eq0-clause-extends : goal.returns-then-count-eq0-clause-extends
returns-then-count-eq0-clause-extends g c = extends_none c.args.wants.now (g.D.Pm.words c.args.dev.now) (g.D.Pm.told c.args.dev.now) c.args.frames.now c.requires.tables (g.met.D.Pm.replays c.args.dev.now)
