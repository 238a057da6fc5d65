use Rattle.std.proofs.Common.{◌≡◌, ◌<◌, ◌≤◌, ◌-◌, ℕ}
use Rattle.ct_pm.specs.Device.{with_steps, flushes_of, MakesOnly, QuietOff, WrittenBack}
use Rattle.ct_pm.proofs.writes.flush_lines.Given as goal

abbrev pub invariant-loop-line : goal.invariant-loop-line
invariant-loop-line g l = record {
  words : g.D.Pm.words l.dev ≡ g.D.Pm.words l.initial.dev;
  quiet : QuietOff (λ _. ⊥) (g.D.Pm.told l.initial.dev) (g.D.Pm.told l.dev);
  from : l.from ≤ l.line;
  within : l.line - l.from ≤ l.to - l.from;
  steps : g.D.Pm.told l.dev ≡ with_steps (flushes_of l.from (l.line - l.from)) (g.D.Pm.told l.initial.dev);
  back : (line : ℕ) → l.from ≤ line → line < l.line → WrittenBack (g.D.Pm.told l.dev) line;
  others : (line : ℕ) → WrittenBack (g.D.Pm.told l.initial.dev) line → WrittenBack (g.D.Pm.told l.dev) line;
  made : MakesOnly (λ at put. ⊥) (g.D.Pm.told l.initial.dev) (g.D.Pm.told l.dev);
  faults : g.D.Pm.faults l.initial.dev ≤ g.D.Pm.faults l.dev;
}
