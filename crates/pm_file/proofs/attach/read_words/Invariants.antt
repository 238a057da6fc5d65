use Rattle.std.proofs.Common.{length, ◌-◌, ◌≤◌}
use Rattle.pm_file.proofs.attach.read_words.Given as goal

abbrev pub invariant-pieces : goal.invariant-pieces
invariant-pieces g l = l.done ≤ length l.words

abbrev pub decreases-pieces : goal.decreases-pieces
decreases-pieces g l = length l.initial.words - l.done
