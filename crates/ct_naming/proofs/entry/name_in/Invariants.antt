use Rattle.std.proofs.Common.{◌≡◌}
use Rattle.ct_base.specs.Slots.{bytes_from}
use Rattle.ct_naming.specs.Slots.{byte_at}
use Rattle.ct_naming.proofs.entry.name_in.Given as goal

abbrev pub invariant-loop-k : goal.invariant-loop-k
invariant-loop-k g l = l.name.items ≡ bytes_from (byte_at (g.D.Pm.words l.dev) l.slot.place) 8 l.k
