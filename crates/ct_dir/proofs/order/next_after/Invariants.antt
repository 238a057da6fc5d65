use Rattle.std.proofs.Common.{◌≡◌, ◌-◌}
use Rattle.ct_dir.specs.Directory.{dir_of, name_in}
use Rattle.ct_dir.specs.Nearest.{IsBest}
use Rattle.ct_dir.specs.Reading.{Stands}
use Rattle.ct_dir.proofs.order.next_after.Given as goal

abbrev pub invariant-loop-slot : goal.invariant-loop-slot
invariant-loop-slot g l = record {
  stands : Stands (g.D.Pm.words l.dev) l.slots;
  dir : l.slots.dir ≡ l.fn.dir;
  best : IsBest (dir_of (g.D.Pm.words l.dev) l.fn.dir) (name_in l.fn.after) l.slots.at l.best;
}

abbrev pub decreases-loop-slot : goal.decreases-loop-slot
decreases-loop-slot g l = l.slots.dir.size - l.slots.at
