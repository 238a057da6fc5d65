use Rattle.std.proofs.Common.{◌≡◌, ◌+◌, ◌-◌, ◌*◌, ◌≤◌}
use Rattle.ct_dir.proofs.Counting.{count_from}
use Rattle.ct_dir.specs.Directory.{dir_of}
use Rattle.ct_dir.specs.Reading.{Stands}
use Rattle.ct_dir.proofs.count.entries.Given as goal

abbrev pub invariant-loop-slot : goal.invariant-loop-slot
invariant-loop-slot g l = record {
  stands : Stands (g.D.Pm.words l.dev) l.slots;
  dir : l.slots.dir ≡ l.fn.dir;
  below : l.slots.at ≤ l.fn.dir.size;
  few : 256 * l.count ≤ l.slots.at;
  counted : l.count + count_from (dir_of (g.D.Pm.words l.dev) l.fn.dir) l.slots.at ≡ count_from (dir_of (g.D.Pm.words l.dev) l.fn.dir) 0;
}

abbrev pub decreases-loop-slot : goal.decreases-loop-slot
decreases-loop-slot g l = l.slots.dir.size - l.slots.at
