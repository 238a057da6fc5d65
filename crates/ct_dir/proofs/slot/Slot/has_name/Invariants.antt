use Rattle.std.proofs.Common.{◌≡◌, ℕ, ◌+◌, ◌<◌, slice_index}
use Rattle.ct_base.specs.Walk.{word}
use Rattle.ct_dir.proofs.slot.Slot.has_name.Given as goal

abbrev pub invariant-loop-k : goal.invariant-loop-k
invariant-loop-k g l = (j : ℕ) → j < l.k → word (g.D.Pm.words l.dev) (l.self.place + 1 + j) ≡ slice_index l.key.words j
