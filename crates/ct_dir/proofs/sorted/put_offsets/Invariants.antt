use Rattle.std.proofs.Common.{◌≡◌, ◌+◌, ◌-◌, ◌≤◌, length, take}
use Rattle.ct_dir.proofs.Counting.{count_from}
use Rattle.ct_dir.proofs.Sorting.{Puts}
use Rattle.ct_dir.specs.Directory.{dir_of}
use Rattle.ct_dir.specs.Reading.{Stands}
use Rattle.ct_dir.proofs.sorted.put_offsets.Given as goal

abbrev pub invariant-loop-slot : goal.invariant-loop-slot
invariant-loop-slot g l = record {
  stands : Stands (g.D.Pm.words l.dev) l.slots;
  dir : l.slots.dir ≡ l.fn.dir;
  size : length l.offsets ≡ length l.fn.offsets;
  room : l.count ≤ length l.offsets;
  counted : l.count + count_from (dir_of (g.D.Pm.words l.dev) l.fn.dir) l.slots.at ≡ count_from (dir_of (g.D.Pm.words l.dev) l.fn.dir) 0;
  puts : Puts (dir_of (g.D.Pm.words l.dev) l.fn.dir) l.slots.at (take l.count l.offsets);
}

abbrev pub decreases-loop-slot : goal.decreases-loop-slot
decreases-loop-slot g l = l.slots.dir.size - l.slots.at
