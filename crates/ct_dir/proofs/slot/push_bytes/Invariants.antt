use Rattle.std.proofs.Common.{◌≡◌, ◌+◌, ◌++◌, length}
use Rattle.ct_base.specs.Slots.{bytes_from}
use Rattle.ct_dir.specs.Keys.{byte_of}
use Rattle.ct_dir.proofs.slot.push_bytes.Given as goal

abbrev pub invariant-loop-i : goal.invariant-loop-i
invariant-loop-i l = record {
  items : l.name.items ≡ l.fn.name.items ++ bytes_from (byte_of l.fn.word) 0 l.i;
  size : length l.name.items ≡ length l.fn.name.items + l.i;
}
