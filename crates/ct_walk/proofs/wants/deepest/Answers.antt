use Rattle.std.proofs.Common.{◌+◌, take, sym, subst}
use Rattle.ct_walk.proofs.Deepening.{Reaches, reaches_more}
use Rattle.ct_walk.proofs.wants.deepest.Goals as goal

pub loop-want-preserved : goal.loop-want-preserved
loop-want-preserved c =
    subst (Reaches (take (c.loop-want.want-index + 1) c.args.wants.now)) (sym c.max-depth.ensures)
    (reaches_more c.args.wants.now c.loop-want.want-index c.loop-want.depth c.height.result c.want-item.result c.loop-want.invariant c.loop-want-test.true c.want-item.is c.height.ensures.exact c.height.ensures.in_range)
