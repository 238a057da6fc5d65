use Rattle.std.proofs.Common.{◌≡◌, ℕ, ◌<◌, get_or}
use Rattle.ct_pm.specs.Device.{NothingPending}
use Rattle.allocator_tests.specs.Ready.{HasPages}
use Rattle.allocator_tests.proofs.volume.ensure_pages.Given as goal

abbrev pub invariant-loop-address : goal.invariant-loop-address
invariant-loop-address g l = record {
  pages : HasPages (g.D.Pm.words l.fn.dev) (g.D.Pm.words l.dev) l.frames (λ a. (k : ℕ) × (k < l.address-index) × (get_or l.addresses.items k 0 ≡ a));
  settled : NothingPending (g.D.Pm.told l.fn.dev) → NothingPending (g.D.Pm.told l.dev);
}
