use Rattle.std.proofs.Common.{◌≡◌, ◌-◌, ◌<◌, ◌≤◌, length}
use Rattle.ct_walk.proofs.Gives.{Given}
use Rattle.ct_walk.proofs.staging.+give_below.Given as goal

abbrev pub decreases-give_below : goal.decreases-give_below
decreases-give_below g l = l.levels

abbrev pub invariant-loop-i : goal.invariant-loop-i
invariant-loop-i g l = record {
  some : 0 < l.levels;
  pages : l.frames.pages ≡ l.fn.frames.pages;
  more : length l.fn.frames.free ≤ length l.frames.free;
  given : Given (g.D.Pm.words l.dev) l.fn.frames.free l.frames.free l.page (l.levels - 1) l.i;
}
