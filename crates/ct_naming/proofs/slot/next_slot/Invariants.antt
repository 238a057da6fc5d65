use Rattle.std.proofs.Common.{◌≡◌, ◌-◌, ◌%◌, ◌≤◌}
use Rattle.ct_dir.specs.Directory.{AreEmpty, dir_of}
use Rattle.ct_naming.proofs.slot.next_slot.Given as goal

abbrev pub invariant-loop-at : goal.invariant-loop-at
invariant-loop-at g l = record {
  aligned : l.at % 256 ≡ 0;
  on : l.from ≤ l.at;
  passed : AreEmpty (dir_of (g.D.Pm.words l.dev) l.dir) l.from l.at;
}

abbrev pub decreases-loop-at : goal.decreases-loop-at
decreases-loop-at g l = l.dir.size - l.at
