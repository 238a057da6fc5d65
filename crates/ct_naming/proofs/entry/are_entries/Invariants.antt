use Rattle.std.proofs.Common.{ℕ, ◌<◌, ◌≤◌}
use Rattle.ct_base.specs.Objects.{objects}
use Rattle.ct_base.specs.Rules.{IsEntry}
use Rattle.ct_base.specs.Slots.{IsSlot}
use Rattle.ct_base.specs.View.{inode_count, view}
use Rattle.ct_naming.proofs.entry.are_entries.Given as goal

abbrev pub invariant-loop-n : goal.invariant-loop-n
invariant-loop-n g l = (i : ℕ) → 1 ≤ i → i < l.n → (o : ℕ) → IsSlot (objects (view (g.D.Pm.words l.dev)) (inode_count (g.D.Pm.words l.dev)) i) o
    → IsEntry (objects (view (g.D.Pm.words l.dev)) (inode_count (g.D.Pm.words l.dev))) (objects (view (g.D.Pm.words l.dev)) (inode_count (g.D.Pm.words l.dev)) i) o
