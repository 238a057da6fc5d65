use Rattle.std.proofs.Common.{get_or, ap}
use Rattle.allocator_tests.proofs.Devices.{pages_more}
use Rattle.allocator_tests.proofs.volume.ensure_pages.Goals as goal

pub loop-address-preserved : goal.loop-address-preserved
loop-address-preserved g c =
    record {
      pages = pages_more (g.D.Pm.words c.args.dev.now) (g.D.Pm.words c.loop-address.dev) (g.D.Pm.words c.ensure_page.new.dev) c.loop-address.frames c.ensure_page.new.frames
          c.args.addresses.now.items c.loop-address.address-index _ (ap (λ xs. get_or xs c.loop-address.address-index 0) c.deref-address-items.ensures.0)
          c.loop-address.invariant.pages c.in_ok-ensure_page.ensures.pages;
      settled = λ s. c.in_ok-ensure_page.ensures.settled (c.loop-address.invariant.settled s);
    }
