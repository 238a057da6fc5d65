use Rattle.std.proofs.Common.{◌≡◌, ◌-◌, ◌≤◌}
use Rattle.ct_dir.proofs.Counting.{IsFirstFree}
use Rattle.ct_dir.specs.Directory.{HaveOther, dir_of}
use Rattle.ct_dir.specs.Reading.{Stands}
use Rattle.ct_dir.proofs.lookup.spot.Given as goal

abbrev pub invariant-loop-slot : goal.invariant-loop-slot
invariant-loop-slot g l = record {
  stands : Stands (g.D.Pm.words l.dev) l.slots;
  dir : l.slots.dir ≡ l.fn.dir;
  below : l.slots.at ≤ l.fn.dir.size;
  other : HaveOther (dir_of (g.D.Pm.words l.dev) l.fn.dir) l.name l.slots.at;
  free : IsFirstFree (dir_of (g.D.Pm.words l.dev) l.fn.dir) l.slots.at l.free;
}

abbrev pub decreases-loop-slot : goal.decreases-loop-slot
decreases-loop-slot g l = l.slots.dir.size - l.slots.at
