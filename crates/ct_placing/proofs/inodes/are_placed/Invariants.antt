use Rattle.std.proofs.Common.{◌≢◌, ℕ, ◌<◌, ◌≤◌}
use Rattle.ct_base.specs.Inode.{inode}
use Rattle.ct_base.specs.Rules.{IsPlaced}
use Rattle.ct_base.specs.View.{view}
use Rattle.ct_placing.proofs.inodes.are_placed.Given as goal

abbrev pub invariant-loop-n : goal.invariant-loop-n
invariant-loop-n g l = (i : ℕ) → 1 ≤ i → i < l.n → (inode (view (g.D.Pm.words l.dev)) i).kind ≢ 0 → IsPlaced (inode (view (g.D.Pm.words l.dev)) i)
