use Rattle.std.proofs.Common.{◌≡◌, ◌<◌, ℕ, length, get_or}
use Rattle.ct_pm.specs.Ram.{words_of}
use Rattle.ct_tell.proofs.copy.copy_of.Given as goal

-- the words so far are those of the image
abbrev pub invariant-loop-word : goal.invariant-loop-word
invariant-loop-word g l = record {
  size : length (words_of l.copy) ≡ length (g.D.Pm.words l.image);
  same : (k : ℕ) → k < l.word → get_or (words_of l.copy) k 0 ≡ get_or (g.D.Pm.words l.image) k 0;
}
