use Rattle.std.proofs.Common.{◌-◌, ◌≤◌}
use Rattle.msa.specs.Mounts.{asks_of}
use Rattle.msa.specs.Ships.{Shown}
use Rattle.msa.proofs.shipping.show.Given as goal

abbrev pub invariant-entries : goal.invariant-entries
invariant-entries l = (l.at ≤ l.count) × Shown (asks_of l.dev) l.place l.initial.entries l.entries l.at

abbrev pub decreases-entries : goal.decreases-entries
decreases-entries l = l.count - l.at
