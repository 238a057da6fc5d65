use Rattle.std.proofs.Common.{◌≡◌, length}
use Rattle.ct_pm.specs.Ram.{pages_of, words_of}
use Rattle.pm_file.proofs.image.store_words.Given as goal

abbrev pub invariant-loop-k : goal.invariant-loop-k
invariant-loop-k l = (pages_of l.device ≡ pages_of l.fn.device) × (length (words_of l.device) ≡ length (words_of l.fn.device))
