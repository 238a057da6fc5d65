use Rattle.std.proofs.Common.{◌≡◌, ◌-◌}
use Rattle.ct_base.specs.Plan.{free_number}
use Rattle.ct_base.specs.View.{view}
use Rattle.ct_inode.proofs.free.free_in_page.Given as goal

abbrev pub invariant-loop-n : goal.invariant-loop-n
invariant-loop-n g l = free_number (view (g.D.Pm.words l.dev)) l.from (l.past - l.from) ≡ free_number (view (g.D.Pm.words l.dev)) l.n (l.past - l.n)
