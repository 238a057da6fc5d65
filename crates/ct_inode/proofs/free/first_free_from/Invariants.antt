use Rattle.std.proofs.Common.{◌≡◌, ◌≤◌, ◌+◌, ◌-◌}
use Rattle.ct_base.specs.Plan.{first_free_number, free_number}
use Rattle.ct_base.specs.View.{view}
use Rattle.ct_inode.proofs.free.first_free_from.Given as goal

abbrev pub invariant-loop-n : goal.invariant-loop-n
invariant-loop-n g l = record {
  from : 1 ≤ l.n;
  found : first_free_number (view (g.D.Pm.words l.dev)) l.count ≡ free_number (view (g.D.Pm.words l.dev)) l.n (l.count + 1 - l.n);
}

abbrev pub decreases-loop-n : goal.decreases-loop-n
decreases-loop-n g l = l.count + 1 - l.n
