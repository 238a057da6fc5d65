use Rattle.ct_walk.proofs.Cells.{has_flag}
use Rattle.ct_walk.proofs.absent.has.Goals as goal

pub returns : goal.returns
returns g c =
    has_flag (g.D.Pm.words c.args.dev.now) c.args.want c.height-depth.result c.absent_between.result c.cells-cells.result c.height-depth.ensures.exact
    c.height-depth.ensures.in_range.0 c.height-depth.ensures.in_range.1
    (record { exact = c.cells-cells.ensures.exact; within = c.cells-cells.ensures.within; order = c.cells-cells.ensures.order; some = c.cells-cells.ensures.some })
    c.absent_between.ensures.count
