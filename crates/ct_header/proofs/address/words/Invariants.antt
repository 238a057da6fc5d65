use Rattle.std.proofs.Common.{◌≡◌, ◌+◌, ◌-◌, ◌≤◌, ◌++◌, length}
use Rattle.ct_base.specs.Ranges.{IsPartition}
use Rattle.ct_base.specs.Published.{words_above}
use Rattle.ct_header.proofs.address.words.Given as goal

abbrev pub invariant-loop-at : goal.invariant-loop-at
invariant-loop-at l = record {
  all : l.words.items ++ words_above l.at l.child (10 - l.at) ≡ words_above l.level l.number (10 - l.level);
  count : length l.words.items + l.level ≡ l.at;
  place : l.at ≤ 9 → IsPartition l.at l.child;
}
