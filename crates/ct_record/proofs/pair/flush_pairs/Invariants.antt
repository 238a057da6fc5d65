use Rattle.std.proofs.Common.{◌≡◌, ◌<◌, ◌≤◌, ◌+◌, ◌*◌, ◌/◌, ℕ}
use Rattle.std.specs.Prelude.{slice_index}
use Rattle.ct_pm.specs.Device.{MakesOnly, QuietOff, WrittenBack}
use Rattle.ct_record.proofs.pair.flush_pairs.Given as goal

abbrev pub invariant-loop-i : goal.invariant-loop-i
invariant-loop-i g l =
    let was = g.D.Pm.words l.initial.dev in
    record {
      words : g.D.Pm.words l.dev ≡ was;
      quiet : QuietOff (λ _. ⊥) (g.D.Pm.told l.initial.dev) (g.D.Pm.told l.dev);
      made : MakesOnly (λ at put. ⊥) (g.D.Pm.told l.initial.dev) (g.D.Pm.told l.dev);
      back : (k : ℕ) → k < l.i → WrittenBack (g.D.Pm.told l.dev) (slice_index was (l.from + 2 * k) / 8);
      faults : g.D.Pm.faults l.initial.dev ≤ g.D.Pm.faults l.dev;
    }
