use Rattle.std.proofs.Common.{◌≡◌, ℕ, ◌+◌, ◌*◌, ◌^◌, ◌<◌, length, slice_index}
use Rattle.ct_base.specs.Inode.{little}
use Rattle.ct_dir.proofs.names.slot_words.Given as goal

abbrev pub invariant-loop-k : goal.invariant-loop-k
invariant-loop-k l = record {
  size : length l.words ≡ 32;
  head : slice_index l.words 0 ≡ l.fn.inode + 2 ^ 32 * length l.name;
  words : (j : ℕ) → j < l.k → slice_index l.words (j + 1) ≡ little (slice_index l.name) (8 * j) 8;
}
