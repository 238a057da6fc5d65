use Rattle.std.proofs.Common.{arith}
use Rattle.ct_walk.proofs.Finding.{absent_more}
use Rattle.ct_walk.proofs.absent.absent_between.Goals as goal

pub loop-x-preserved : goal.loop-x-preserved
loop-x-preserved g c =
    let so_far = c.loop-x.invariant in
    record {
      low = omega (arith, so_far.low);
      high = omega (arith, c.max-x.ensures, c.absent_from-absent.ensures.most, c.loop-x-test.true);
      counted = absent_more (g.D.Pm.words c.args.dev.now) c.args.depth c.loop-x.total c.args.from c.loop-x.x c.absent_from-absent.result c.max-x.result so_far.counted
          c.absent_from-absent.ensures.present c.absent_from-absent.ensures.absent (λ z. omega (arith, c.max-x.ensures, z)) (λ some. omega (arith, c.max-x.ensures, some));
      most = omega (arith, so_far.most, c.max-x.ensures);
    }
