use Rattle.std.proofs.Common.{◌≡◌, length}
use Rattle.crash_tests.proofs.records.device.Given as goal

abbrev pub invariant-loop-word : goal.invariant-loop-word
invariant-loop-word l = length l.words.items ≡ l.word
