use Rattle.std.proofs.Common.{◌≡◌, ◌+◌, ◌*◌, length}
use Rattle.ct_base.specs.Objects.{objects}
use Rattle.ct_base.specs.View.{inode_count, view}
use Rattle.ct_naming.specs.Visits.{Visits, unmarked}
use Rattle.ct_naming.proofs.reach.reach_all.Given as goal

abbrev pub invariant-loop-n : goal.invariant-loop-n
invariant-loop-n g l = record {
  length : length l.marks.items ≡ inode_count (g.D.Pm.words l.dev) + 1;
  visits : Visits (objects (view (g.D.Pm.words l.dev)) (inode_count (g.D.Pm.words l.dev))) 0 0 l.marks.items l.visit.items;
}

abbrev pub decreases-loop-n : goal.decreases-loop-n
decreases-loop-n g l = 2 * unmarked l.marks.items (inode_count (g.D.Pm.words l.dev) + 1) + length l.visit.items
