use Rattle.growth_stops.proofs.Growable.{filled}
use Rattle.growth_stops.proofs.volume.Resting.filled.Goals as goal

pub invariant_of-result : goal.invariant_of-result
invariant_of-result g c =
    filled c.in_ok-at.at c.self.invariant c.in_ok-page_at.ensures c.in_ok-page_at-2.ensures c.in_ok-at.ensures.owned c.in-Ok.ensures.extends.grown
    (c.in-Ok.ensures.settled c.self.invariant.settled) c.in-Ok.ensures.agrees
