use Rattle.std.proofs.Common.{◌≡◌, ◌-◌, ◌%◌}
use Rattle.ct_naming.specs.Spelling.{Spells}
use Rattle.ct_naming.proofs.names.names_of.Given as goal

abbrev pub invariant-loop-slot : goal.invariant-loop-slot
invariant-loop-slot g l = record {
  aligned : l.at % 256 ≡ 0;
  names : Spells (g.D.Pm.words l.dev) l.dir l.at l.names.items;
}

abbrev pub decreases-loop-slot : goal.decreases-loop-slot
decreases-loop-slot g l = l.dir.size - l.at
