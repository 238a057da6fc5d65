use Rattle.std.proofs.Common.{◌-◌, ◌≤◌}
use Rattle.ct_base.specs.Ranges.{IsDown}
use Rattle.ct_words.specs.Shown.{shown_word}
use Rattle.ct_header.proofs.free.pick.Given as goal

abbrev pub invariant-loop-above : goal.invariant-loop-above
invariant-loop-above g l = record {
  low : l.level ≤ l.above;
  high : l.above ≤ 9;
  down : IsDown (shown_word (g.D.Pm.words l.dev)) l.level l.above l.number;
}

abbrev pub decreases-loop-above : goal.decreases-loop-above
decreases-loop-above g l = l.above - l.level
