use Rattle.ct_dir.proofs.Choosing.{later_test}
use Rattle.ct_dir.proofs.order.is_later.Goals as goal

pub returns-in-Some : goal.returns-in-Some
returns-in-Some g c f x h keys = later_test x c.args.after.now c.in-Some.key c.compare.result c.eq.result h keys c.in-Some.is c.compare.ensures c.eq.ensures
