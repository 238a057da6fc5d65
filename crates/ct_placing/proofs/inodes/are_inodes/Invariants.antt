use Rattle.std.proofs.Common.{ℕ, ◌<◌, ◌≤◌}
use Rattle.ct_base.specs.Rules.{IsInode}
use Rattle.ct_base.specs.View.{view}
use Rattle.ct_placing.proofs.inodes.are_inodes.Given as goal

abbrev pub invariant-loop-n : goal.invariant-loop-n
invariant-loop-n g l = (i : ℕ) → 1 ≤ i → i < l.n → IsInode (view (g.D.Pm.words l.dev)) i
