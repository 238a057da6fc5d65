use Rattle.std.proofs.Common.{◌≡◌, ◌≢◌, ℕ, ◌<◌, ◌≤◌, true}
use Rattle.ct_base.specs.Inode.{inode}
use Rattle.ct_base.specs.View.{view}
use Rattle.ct_marks.specs.Marks.{is_marked}
use Rattle.ct_naming.proofs.named.are_marked.Given as goal

abbrev pub invariant-loop-n : goal.invariant-loop-n
invariant-loop-n g l = (c : ℕ) → l.from ≤ c → c < l.n → (inode (view (g.D.Pm.words l.dev)) c).kind ≢ 0 → is_marked l.marks.items c ≡ true
