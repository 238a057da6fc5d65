use Rattle.std.proofs.Common.{sym, ◌∙◌, arith}
use Rattle.growth_stops.proofs.Growable.{made_mounted}
use Rattle.growth_stops.proofs.volume.made.Goals as goal

pub invariant_of-result : goal.invariant_of-result
invariant_of-result g c =
    made_mounted c.in-Ok-format.fs c.unmount.result (g.D.Pm.page_count c.args.dev) 2 256 c.in-Ok.frames c.in-Ok-format.ensures.made c.in-Ok-format.ensures.settled c.unmount.ensures
    (sym c.if-pages-ne-PAGES.false ∙ c.pages.ensures) (omega arith) c.in-Ok.ensures
