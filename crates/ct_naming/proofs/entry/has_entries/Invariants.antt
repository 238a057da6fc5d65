use Rattle.std.proofs.Common.{◌≡◌, ℕ, ◌-◌, ◌%◌, ◌<◌}
use Rattle.ct_base.specs.Objects.{objects}
use Rattle.ct_base.specs.Rules.{IsEntry}
use Rattle.ct_base.specs.Slots.{IsSlot}
use Rattle.ct_base.specs.View.{inode_count, view}
use Rattle.ct_dir.specs.Directory.{dir_of}
use Rattle.ct_naming.proofs.entry.has_entries.Given as goal

abbrev pub invariant-loop-slot : goal.invariant-loop-slot
invariant-loop-slot g l = record {
  aligned : l.at % 256 ≡ 0;
  entries : (o : ℕ) → o < l.at → IsSlot (dir_of (g.D.Pm.words l.dev) l.dir) o
      → IsEntry (objects (view (g.D.Pm.words l.dev)) (inode_count (g.D.Pm.words l.dev))) (dir_of (g.D.Pm.words l.dev) l.dir) o;
}

abbrev pub decreases-loop-slot : goal.decreases-loop-slot
decreases-loop-slot g l = l.dir.size - l.at
