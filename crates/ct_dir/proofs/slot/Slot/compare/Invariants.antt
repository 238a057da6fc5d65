use Rattle.std.proofs.Common.{◌≡◌, ◌-◌, slice_index}
use Rattle.ct_dir.specs.Keys.{word_after, words_cmp}
use Rattle.ct_dir.proofs.slot.Slot.compare.Given as goal

abbrev pub invariant-loop-k : goal.invariant-loop-k
invariant-loop-k g l =
    words_cmp (word_after (g.D.Pm.words l.dev) l.self) (slice_index l.key.words) 0 31 ≡ words_cmp (word_after (g.D.Pm.words l.dev) l.self) (slice_index l.key.words) l.k (31 - l.k)
