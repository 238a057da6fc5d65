use Rattle.std.proofs.Common.{◌≢◌, ℕ, ◌<◌, ◌≤◌}
use Rattle.ct_base.specs.Inode.{inode}
use Rattle.ct_base.specs.View.{view}
use Rattle.ct_placing.specs.Zeros.{IsTailZero}
use Rattle.ct_placing.proofs.tails.are_tails_zero.Given as goal

abbrev pub invariant-loop-n : goal.invariant-loop-n
invariant-loop-n g l = (i : ℕ) → 1 ≤ i → i < l.n → (inode (view (g.D.Pm.words l.dev)) i).kind ≢ 0 → (inode (view (g.D.Pm.words l.dev)) i).level ≤ 9
    → IsTailZero (view (g.D.Pm.words l.dev)) (inode (view (g.D.Pm.words l.dev)) i)
