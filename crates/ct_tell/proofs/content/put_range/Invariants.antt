use Rattle.std.proofs.Common.{◌≡◌, ◌-◌, ◌≤◌, None}
use Rattle.std.specs.Io.KnownBytes.{Appends}
use Rattle.ct_commit.specs.Rest.{StandsFor}
use Rattle.ct_tree.specs.Checks.{at}
use Rattle.ct_tree.specs.Content.{bytes_in, range}
use Rattle.ct_tree.specs.Step.{locate, refusal}
use Rattle.ct_tree.specs.Tree.{Tree}
use Rattle.ct_tell.proofs.content.put_range.Given as goal

-- what is written so far
abbrev pub invariant-pieces : goal.invariant-pieces
invariant-pieces g l = record {
  begun : l.from ≤ l.at;
  within : l.at ≤ l.to;
  bytes : (t : Tree) → StandsFor (g.D.Pm.words l.dev) t → refusal t (locate l.path) ≡ None
      → Appends (g.O.Sink.written l.fn.out) (g.O.Sink.written l.out) (range (bytes_in (at t l.path)) l.from (l.at - l.from));
  later : g.O.Sink.faults l.fn.out ≤ g.O.Sink.faults l.out;
}

abbrev pub decreases-pieces : goal.decreases-pieces
decreases-pieces g l = l.to - l.at
