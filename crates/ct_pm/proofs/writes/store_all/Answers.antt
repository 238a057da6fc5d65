use Rattle.std.proofs.Common.{refl, arith}
use Rattle.ct_pm.proofs.Laying.{stored_more}
use Rattle.ct_pm.proofs.writes.store_all.Goals as goal

pub loop-i-preserved : goal.loop-i-preserved
loop-i-preserved g c = (
  stored_more c.loop-i.invariant.0 (omega arith) c.requires (g.met.D.Pm.replays c.loop-i.dev) refl c.in_ok-store.ensures.words c.in_ok-store.ensures.step,
  omega (arith, c.loop-i.invariant.1, c.store.ensures.cause.later),
)
