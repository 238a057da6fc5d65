use Rattle.std.proofs.Common.{◌≡◌, ◌+◌, ◌*◌, ◌-◌, ◌≤◌, ◌++◌, length, take}
use Rattle.std.specs.Vec.{vec_capacity}
use Rattle.ct_script.specs.Texts.{escaped}
use Rattle.ct_script.proofs.quote.quote_onto.Given as goal

abbrev pub invariant-loop-byte : goal.invariant-loop-byte
invariant-loop-byte l = record {
  items : l.text.items ≡ l.fn.text.items ++ escaped (take l.byte-index l.name);
  space : length l.text.items + 3 * (length l.name - l.byte-index) ≤ vec_capacity l.text;
  room : vec_capacity l.fn.text ≤ vec_capacity l.text;
}
