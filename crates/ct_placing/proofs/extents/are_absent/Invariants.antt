use Rattle.std.proofs.Common.{◌≡◌, ℕ, ◌-◌, ◌<◌, ◌≤◌}
use Rattle.ct_base.specs.Walk.{page_at}
use Rattle.ct_placing.proofs.extents.are_absent.Given as goal

abbrev pub invariant-loop-page : goal.invariant-loop-page
invariant-loop-page g l = record {
  order : l.from ≤ l.page;
  absent : (p : ℕ) → l.from ≤ p → p < l.page → page_at (g.D.Pm.words l.dev) 4 p ≡ 0;
}

abbrev pub decreases-loop-page : goal.decreases-loop-page
decreases-loop-page g l = l.to - l.page
