use Rattle.std.proofs.Common.{◌≡◌, ◌+◌, length}
use Rattle.ct_base.specs.Pieces.{pieces}
use Rattle.ct_pieces.proofs.count.Given as goal

abbrev pub invariant-loop-piece : goal.invariant-loop-piece
invariant-loop-piece l = l.found + length l._piece-iterator ≡ length (pieces l.a l.b l.n)
