use Rattle.std.proofs.Common.{arith}
use Rattle.ct_dir.proofs.Held.{laid}
use Rattle.ct_dir.proofs.slots.Slots.page_here.Goals as goal

pub page_of-requires-clause-high : goal.page_of-requires-clause-high
page_of-requires-clause-high g c = let l = laid c.requires.readable.placed (omega (arith, c.requires.below)) in omega (arith, l.high, c.requires.below)
