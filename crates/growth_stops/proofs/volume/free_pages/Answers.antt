use Rattle.std.proofs.Common.{arith}
use Rattle.ct_format.proofs.Fresh.{first_there, first_taken}
use Rattle.growth_stops.proofs.volume.free_pages.Goals as goal

pub mark-requires : goal.mark-requires
mark-requires c = first_there c.loop-page.frames c.args.pages c.loop-page.page c.new-in-loop-page.result (omega arith) c.loop-page.invariant c.new-in-loop-page.ensures

pub loop-page-preserved : goal.loop-page-preserved
loop-page-preserved c =
    first_taken c.loop-page.frames c.mark.new.self c.args.pages c.loop-page.page c.new-in-loop-page.result (omega arith) c.loop-page.invariant c.new-in-loop-page.ensures c.mark.ensures
