use Rattle.ct_walk.proofs.Lowest.{lowest_taken, taken_either}
use Rattle.ct_walk.proofs.depths.take_lowest.Goals as goal

pub loop-preserved : goal.loop-preserved
loop-preserved c =
    lowest_taken c.args.frames.now c.loop.frames c.loop.counter c.take-page.new.self c.loop.invariant c.take-page.ensures.pages (taken_either c.loop.frames c.take-page.new.self c.take-page.result c.take-page.ensures.some c.take-page.ensures.none)
