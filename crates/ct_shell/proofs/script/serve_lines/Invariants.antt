use Rattle.std.proofs.Common.{◌+◌, ◌-◌, ◌≤◌, length}
use Rattle.ct_shell.proofs.Streams.{Going}
use Rattle.ct_shell.proofs.script.serve_lines.Given as goal

-- what is done of the items that came, and the tree that the device holds then
abbrev pub invariant-lines : goal.invariant-lines
invariant-lines g l = record {
  going : Going l.feed l.fn.fs.state l.fs.state (g.S.Source.rest l.fn.input) (g.S.Source.rest l.input) (g.O.Sink.written l.fn.out) (g.O.Sink.written l.out);
  input_later : g.S.Source.faults l.fn.input ≤ g.S.Source.faults l.input;
  output_later : g.O.Sink.faults l.fn.out ≤ g.O.Sink.faults l.out;
}

abbrev pub decreases-lines : goal.decreases-lines
decreases-lines g l = (16777217 - l.feed.given) + length l.feed.held
