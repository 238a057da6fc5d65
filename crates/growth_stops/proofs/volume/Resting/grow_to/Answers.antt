use Rattle.std.proofs.Common.{refl}
use Rattle.ct_call.proofs.Rooms.{moved_rest, moved_unstaged}
use Rattle.growth_stops.proofs.Growable.{mounted}
use Rattle.growth_stops.proofs.volume.Resting.grow_to.Goals as goal

pub invariant_of-result : goal.invariant_of-result
invariant_of-result g c =
    let m = c.self.invariant in
    let can = c.if-not-can_grow.ensures.can refl in
    mounted (moved_rest m.rest can c.in-Ok.ensures.cells c.in-Ok.ensures.ready c.in-Ok.ensures.promoted) (moved_unstaged m.rest can c.in-Ok.ensures.cells c.in-Ok.ensures.ready m.unstaged)
    c.in-Ok.ensures.settled c.in-Ok.ensures.agrees
