use Rattle.ct_pm.specs.Device.{NothingPending}
use Rattle.allocator_tests.specs.Ready.{IsReady}
use Rattle.allocator_tests.proofs.volume.take_many.Given as goal

abbrev pub invariant-each : goal.invariant-each
invariant-each g l = record {
  ready : IsReady (g.D.Pm.words l.dev) l.frames;
  settled : NothingPending (g.D.Pm.told l.dev);
}
