use Rattle.std.proofs.Common.{◌≡◌, ◌-◌, ◌%◌, ◌≤◌}
use Rattle.ct_look.specs.Holes.{AreUnmapped}
use Rattle.ct_look.proofs.holes.next_mapped.Given as goal

abbrev pub invariant-holes : goal.invariant-holes
invariant-holes g l = record {
  later : l.from ≤ l.here;
  empty : AreUnmapped (g.D.Pm.words l.dev) l.from l.here;
  whole : l.from % 4096 ≡ 0 → l.here % 4096 ≡ 0;
}

abbrev pub decreases-holes : goal.decreases-holes
decreases-holes g l = l.end - l.here
