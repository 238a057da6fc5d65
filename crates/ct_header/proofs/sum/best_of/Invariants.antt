use Rattle.std.proofs.Common.{◌≡◌, ◌≤◌, take}
use Rattle.ct_base.specs.Ranges.{best}
use Rattle.ct_header.proofs.sum.best_of.Given as goal

abbrev pub invariant-loop-byte : goal.invariant-loop-byte
invariant-loop-byte l = record {
  value : l.most ≡ best l.level (take l.byte-index l.bytes);
  most : l.most ≤ 223;
}
