use Rattle.std.proofs.Common.{◌≡◌, ℕ, ◌<◌, ◌≤◌}
use Rattle.ct_base.specs.Inode.{inode_word}
use Rattle.ct_base.specs.View.{view}
use Rattle.ct_placing.proofs.inodes.are_words_zero.Given as goal

abbrev pub invariant-loop-k : goal.invariant-loop-k
invariant-loop-k g l = (k : ℕ) → l.from ≤ k → k < l.k → inode_word (view (g.D.Pm.words l.dev)) l.n k ≡ 0
