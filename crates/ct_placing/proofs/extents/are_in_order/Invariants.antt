use Rattle.std.proofs.Common.{ℕ, ◌+◌, ◌<◌, ◌≤◌, get_or}
use Rattle.ct_placing.specs.declared.extent.Extent.{Extent}
use Rattle.ct_placing.proofs.extents.are_in_order.Given as goal

abbrev pub invariant-loop-k : goal.invariant-loop-k
invariant-loop-k l = (j : ℕ) (d : Extent) → j + 1 < l.k → (get_or l.extents.items j d).end ≤ (get_or l.extents.items (j + 1) d).base
