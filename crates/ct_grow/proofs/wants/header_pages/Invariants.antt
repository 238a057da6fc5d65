use Rattle.std.proofs.Common.{◌≡◌, map, take}
use Rattle.ct_base.specs.Plan.{page_want}
use Rattle.ct_grow.proofs.wants.header_pages.Given as goal

abbrev pub invariant-loop-address : goal.invariant-loop-address
invariant-loop-address l = l.wants ≡ map page_want (take l.address-index l.address-items)
