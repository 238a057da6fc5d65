use Rattle.std.proofs.Common.{◌≡◌, drop, ◌<◌, ◌^◌}
use Rattle.ct_script.specs.Grammar.{value_from}
use Rattle.ct_script.proofs.number.value_of.Given as goal

abbrev pub invariant-loop-digit : goal.invariant-loop-digit
invariant-loop-digit l = record {
  value : value_from l.value (drop l.digit-index l.word) ≡ value_from 0 l.word;
  bound : l.value < 2 ^ 64;
}
