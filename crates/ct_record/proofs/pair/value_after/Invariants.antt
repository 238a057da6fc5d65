use Rattle.std.proofs.Common.{◌≡◌, ◌≤◌}
use Rattle.std.specs.Prelude.{slice_index}
use Rattle.ct_base.specs.Settled.{with_pairs, pairs_at}
use Rattle.ct_record.proofs.pair.value_after.Given as goal

abbrev pub invariant-pairs : goal.invariant-pairs
invariant-pairs g l = let words = g.D.Pm.words l.dev in record {
  within : l.left ≤ l.count;
  same : slice_index (with_pairs (pairs_at l.from l.count words) words) l.word ≡ slice_index (with_pairs (pairs_at l.from l.left words) words) l.word;
}

abbrev pub decreases-pairs : goal.decreases-pairs
decreases-pairs g l = l.left
