use Rattle.std.proofs.Common.{◌≡◌, ◌+◌, ◌-◌, ◌%◌, length}
use Rattle.ct_base.specs.Objects.{objects}
use Rattle.ct_base.specs.View.{inode_count, view}
use Rattle.ct_naming.specs.Naming.{Counts}
use Rattle.ct_naming.proofs.named.mark_children.Given as goal

abbrev pub invariant-loop-slot : goal.invariant-loop-slot
invariant-loop-slot g l = record {
  aligned : l.at % 256 ≡ 0;
  length : length l.marks.items ≡ inode_count (g.D.Pm.words l.dev) + 1;
  counts : Counts (objects (view (g.D.Pm.words l.dev)) (inode_count (g.D.Pm.words l.dev))) l.n 0 l.fn.marks.items
      → Counts (objects (view (g.D.Pm.words l.dev)) (inode_count (g.D.Pm.words l.dev))) l.n l.at l.marks.items;
}

abbrev pub decreases-loop-slot : goal.decreases-loop-slot
decreases-loop-slot g l = l.dir.size - l.at
