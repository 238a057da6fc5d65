use Rattle.std.proofs.Common.{◌≡◌, ◌*◌, min}
use Rattle.ct_base.specs.Slots.{bytes_from}
use Rattle.ct_dir.specs.Keys.{name_byte}
use Rattle.ct_dir.proofs.slot.Slot.name.Given as goal

abbrev pub invariant-loop-k : goal.invariant-loop-k
invariant-loop-k g l = l.name.items ≡ bytes_from (name_byte (g.D.Pm.words l.dev) l.self) 0 (min (8 * l.k) l.length)
