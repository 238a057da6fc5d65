use Rattle.std.proofs.Common.{◌≡◌, ℕ, ◌*◌, ◌<◌, length, slice_index}
use Rattle.ct_base.specs.Inode.{little}
use Rattle.ct_dir.proofs.names.name_words.Given as goal

abbrev pub invariant-loop-k : goal.invariant-loop-k
invariant-loop-k l = (length l.words ≡ 31) × ((j : ℕ) → j < l.k → slice_index l.words j ≡ little (slice_index l.name) (8 * j) 8)
