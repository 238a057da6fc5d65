use Rattle.std.proofs.Common.{◌≡◌, ◌-◌}
use Rattle.ct_dir.specs.Directory.{HaveOther, dir_of}
use Rattle.ct_dir.specs.Reading.{Stands}
use Rattle.ct_dir.proofs.lookup.find.Given as goal

abbrev pub invariant-loop-slot : goal.invariant-loop-slot
invariant-loop-slot g l = record {
  stands : Stands (g.D.Pm.words l.dev) l.slots;
  dir : l.slots.dir ≡ l.fn.dir;
  other : HaveOther (dir_of (g.D.Pm.words l.dev) l.fn.dir) l.name l.slots.at;
}

abbrev pub decreases-loop-slot : goal.decreases-loop-slot
decreases-loop-slot g l = l.slots.dir.size - l.slots.at
