use Rattle.std.proofs.Common.{ℕ, ◌<◌, ◌≤◌}
use Rattle.ct_base.specs.Objects.{objects}
use Rattle.ct_base.specs.View.{inode_count, view}
use Rattle.ct_naming.specs.Spelling.{AreSlotsApart}
use Rattle.ct_naming.proofs.names.are_names_apart.Given as goal

abbrev pub invariant-loop-n : goal.invariant-loop-n
invariant-loop-n g l = (i : ℕ) → 1 ≤ i → i < l.n → AreSlotsApart (objects (view (g.D.Pm.words l.dev)) (inode_count (g.D.Pm.words l.dev)) i)
