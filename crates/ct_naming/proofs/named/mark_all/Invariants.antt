use Rattle.std.proofs.Common.{◌≡◌, ◌+◌, length}
use Rattle.ct_base.specs.Objects.{objects}
use Rattle.ct_base.specs.View.{inode_count, view}
use Rattle.ct_naming.specs.Naming.{Counts}
use Rattle.ct_naming.proofs.named.mark_all.Given as goal

abbrev pub invariant-loop-n : goal.invariant-loop-n
invariant-loop-n g l = record {
  length : length l.marks.items ≡ inode_count (g.D.Pm.words l.dev) + 1;
  counts : Counts (objects (view (g.D.Pm.words l.dev)) (inode_count (g.D.Pm.words l.dev))) l.n 0 l.marks.items;
}
