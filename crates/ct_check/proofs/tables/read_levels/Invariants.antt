use Rattle.std.proofs.Common.{◌≡◌, length}
use Rattle.ct_check.specs.Reading.{IsLevel, Walked}
use Rattle.ct_check.proofs.tables.read_levels.Given as goal

abbrev pub invariant-loop-depth : goal.invariant-loop-depth
invariant-loop-depth g l = record {
  met : length l.met.pages.items ≡ l.pages;
  level : IsLevel (g.D.Pm.words l.dev) l.depth l.level.items;
  walked : Walked (g.D.Pm.words l.dev) l.depth 0 l.met.pages.items l.met.twice;
}
