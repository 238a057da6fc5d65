use Rattle.std.proofs.Common.{◌≡◌, ◌≤◌}
use Rattle.ct_pm.specs.Device.{MakesOnly, QuietOff}
use Rattle.ct_base.specs.Settled.{with_pairs, pairs_at}
use Rattle.ct_base.specs.Settled.{Named, Gives}
use Rattle.ct_record.proofs.pair.store_pairs.Given as goal

abbrev pub invariant-loop-i : goal.invariant-loop-i
invariant-loop-i g l =
    let was = g.D.Pm.words l.initial.dev in
    record {
      words : g.D.Pm.words l.dev ≡ with_pairs (pairs_at l.from l.i was) was;
      quiet : QuietOff (Named (pairs_at l.from l.count was)) (g.D.Pm.told l.initial.dev) (g.D.Pm.told l.dev);
      made : MakesOnly (Gives (pairs_at l.from l.count was)) (g.D.Pm.told l.initial.dev) (g.D.Pm.told l.dev);
      faults : g.D.Pm.faults l.initial.dev ≤ g.D.Pm.faults l.dev;
    }
