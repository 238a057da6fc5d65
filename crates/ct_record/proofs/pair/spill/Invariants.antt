use Rattle.std.proofs.Common.{◌≤◌}
use Rattle.ct_pm.specs.Device.{MakesOnly, QuietOff, IsIn}
use Rattle.ct_record.proofs.Copies.{Copied}
use Rattle.ct_record.proofs.pair.spill.Given as goal

abbrev pub invariant-loop-k : goal.invariant-loop-k
invariant-loop-k g l = record {
  copied : Copied l.k (g.D.Pm.words l.initial.dev) (g.D.Pm.words l.dev);
  quiet : QuietOff (IsIn 528 6) (g.D.Pm.told l.initial.dev) (g.D.Pm.told l.dev);
  made : MakesOnly (λ word value. IsIn 528 6 word) (g.D.Pm.told l.initial.dev) (g.D.Pm.told l.dev);
  faults : g.D.Pm.faults l.initial.dev ≤ g.D.Pm.faults l.dev;
}
