use Rattle.std.proofs.Common.{◌≡◌, ℕ, ◌<◌, length, slice_index}
use Rattle.ct_dir.specs.Keys.{word_after}
use Rattle.ct_dir.proofs.slot.Slot.key.Given as goal

abbrev pub invariant-loop-k : goal.invariant-loop-k
invariant-loop-k g l = (length l.words ≡ 31) × ((j : ℕ) → j < l.k → slice_index l.words j ≡ word_after (g.D.Pm.words l.dev) l.self j)
