use Rattle.write_stops.proofs.Writable.{held}
use Rattle.write_stops.proofs.holder.Holder.of.Goals as goal

pub invariant_of-result : goal.invariant_of-result
invariant_of-result g c = held c.into_parts-dev.ensures
