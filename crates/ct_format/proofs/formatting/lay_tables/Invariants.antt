use Rattle.std.proofs.Common.{◌*◌, ◌-◌, ◌≤◌}
use Rattle.ct_pm.specs.Device.{IsIn}
use Rattle.ct_format.specs.Formatting.{Lays, Laid, format_word}
use Rattle.ct_format.proofs.formatting.lay_tables.Given as goal

-- the pages so far
abbrev pub invariant-loop-page : goal.invariant-loop-page
invariant-loop-page g l = record {
  from : 33 ≤ l.page;
  only : Lays (IsIn 16896 (l.page * 512 - 16896)) (g.D.Pm.words l.initial.dev) (g.D.Pm.words l.dev) (g.D.Pm.told l.initial.dev) (g.D.Pm.told l.dev);
  laid : Laid (IsIn 16896 (l.page * 512 - 16896)) (format_word l.pages l.inodes) (g.D.Pm.words l.dev) (g.D.Pm.told l.initial.dev) (g.D.Pm.told l.dev);
  later : g.D.Pm.faults l.initial.dev ≤ g.D.Pm.faults l.dev;
}
