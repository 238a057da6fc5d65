use Rattle.std.proofs.Common.{◌≡◌, ◌++◌, ◌+◌, ◌≤◌, take, length}
use Rattle.percent_encoding.specs.Iter.{decoded_bytes}
use Rattle.percent_encoding.specs.Percent.{percent_decode}
use Rattle.ct_script.proofs.scratch.decode_onto.Given as goal

abbrev pub invariant-loop-byte : goal.invariant-loop-byte
invariant-loop-byte l = record {
  text : take l.count l.buffer ++ decoded_bytes l.bytes ≡ percent_decode l.word;
  fits : l.count + length (decoded_bytes l.bytes) ≤ length l.buffer;
}

abbrev pub decreases-loop-byte : goal.decreases-loop-byte
decreases-loop-byte l = length (decoded_bytes l.bytes)
