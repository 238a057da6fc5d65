use Rattle.std.proofs.Common.{ℕ, ◌+◌, ◌^◌, ◌<◌, length}
use Rattle.ct_call.specs.Calls.{Keeps}
use Rattle.ct_tree.specs.Tree.{Tree}
use Rattle.ct_tally.specs.Tried.{items_of}
use Rattle.ct_tally.proofs.Going.{Going}
use Rattle.ct_tally.proofs.Counting.{IsSmall}
use Rattle.ct_tally.proofs.calls.make_all.Given as goal

-- what is done of the calls, and how many there are still
abbrev pub invariant-calls : goal.invariant-calls
invariant-calls g l = record {
  few : l.counts.calls + length l.calls < 2 ^ 32;
  small : IsSmall l.counts;
  going : (n : ℕ) (t : Tree) → Keeps n l.fn.fs.state t → Going n t (items_of l.fn.calls) (items_of l.calls) l.fn.fs.state l.fs.state l.counts;
}

abbrev pub decreases-calls : goal.decreases-calls
decreases-calls g l = length l.calls
