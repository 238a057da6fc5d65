use Rattle.std.proofs.Common.{◌≤◌, ◌+◌, arith}
use Rattle.ct_tree.specs.Checks.{at}
use Rattle.ct_tree.specs.Content.{bytes_in}
use Rattle.ct_tell.proofs.Pieces.{range_more, range_torn}
use Rattle.ct_tell.proofs.content.put_range.Goals as goal

pub pieces-preserved : goal.pieces-preserved
pieces-preserved g c = record {
  begun = let had = c.pieces.invariant.begun in omega (arith, had);
  within = let more = c.pieces-test.true in omega (arith, more, c.min-len.ensures);
  bytes = λ t st file.
      range_more (bytes_in (at t c.args.path.now)) c.args.from c.pieces.at c.min-len.result c.pieces.invariant.begun
      (g.O.Sink.written c.args.out.now) (g.O.Sink.written c.pieces.out) (g.O.Sink.written c.put_piece.new.out)
      (c.pieces.invariant.bytes t st file) (c.in-Ok.ensures.bytes t st file);
  later = let had = c.pieces.invariant.later in let more = c.in-Ok.ensures.cause.later in omega (arith, had, more);
}

pub returns-in-Err-clause-bytes : goal.returns-in-Err-clause-bytes
returns-in-Err-clause-bytes g c t st file long =
    let more = c.pieces-test.true in
    let inside : c.pieces.at + c.min-len.result ≤ c.args.to = omega (arith, more, c.min-len.ensures) in
    range_torn (bytes_in (at t c.args.path.now)) c.args.from c.pieces.at c.min-len.result c.pieces.invariant.begun c.args.to
    (g.O.Sink.written c.args.out.now) (g.O.Sink.written c.pieces.out) (g.O.Sink.written c.put_piece.new.out) inside
    (c.pieces.invariant.bytes t st file) (c.in-Err.ensures.bytes t st file)
