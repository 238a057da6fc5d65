use Rattle.mount_stops.proofs.Stopped.{IsLeft}
use Rattle.mount_stops.proofs.through.mount_through.Given as goal

abbrev pub invariant-loop-stop : goal.invariant-loop-stop
invariant-loop-stop l = IsLeft l.fn.dev l.dev l.fn.stops l.stop-index
