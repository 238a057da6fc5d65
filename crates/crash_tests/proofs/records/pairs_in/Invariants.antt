use Rattle.std.proofs.Common.{◌≤◌}
use Rattle.crash_tests.proofs.records.pairs_in.Given as goal

abbrev pub invariant-loop-word : goal.invariant-loop-word
invariant-loop-word l = l.pairs ≤ 5
