use Rattle.std.proofs.Common.{◌≡◌, ◌≤◌, ◌-◌, length}
use Rattle.ct_pm.specs.Ram.{pages_of, words_of}
use Rattle.pm_file.proofs.image.fill_words.Given as goal

abbrev pub invariant-pieces : goal.invariant-pieces
invariant-pieces g l =
    (l.done ≤ l.words) × (pages_of l.device ≡ pages_of l.fn.device) × (length (words_of l.device) ≡ length (words_of l.fn.device))

abbrev pub decreases-pieces : goal.decreases-pieces
decreases-pieces g l = l.words - l.done
