use Rattle.ct_dir.proofs.Choosing.{nearer_test}
use Rattle.ct_dir.proofs.order.is_nearer.Goals as goal

pub returns-in-Some : goal.returns-in-Some
returns-in-Some g c f x h keys = nearer_test x c.args.best.now c.in-Some.best c.compare.result c.eq.result h keys c.in-Some.is c.compare.ensures c.eq.ensures
