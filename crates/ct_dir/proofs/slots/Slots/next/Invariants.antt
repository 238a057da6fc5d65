use Rattle.std.proofs.Common.{◌≡◌, ◌-◌, ◌≤◌}
use Rattle.ct_dir.specs.Directory.{AreEmpty, dir_of}
use Rattle.ct_dir.specs.Reading.{Stands}
use Rattle.ct_dir.proofs.slots.Slots.next.Given as goal

abbrev pub invariant-loop-self : goal.invariant-loop-self
invariant-loop-self g l = record {
  stands : Stands (g.D.Pm.words l.dev) l.self;
  dir : l.self.dir ≡ l.fn.self.dir;
  from : l.fn.self.at ≤ l.self.at;
  empty : AreEmpty (dir_of (g.D.Pm.words l.dev) l.fn.self.dir) l.fn.self.at l.self.at;
}

abbrev pub decreases-loop-self : goal.decreases-loop-self
decreases-loop-self g l = l.self.dir.size - l.self.at
