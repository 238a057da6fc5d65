use Rattle.std.proofs.Common.{ap, length, arith}
use Rattle.ct_pieces.proofs.Steps.{length-pieces_from}
use Rattle.ct_pieces.proofs.Least.{least}
use Rattle.ct_pieces.proofs.Few.{few}
use Rattle.ct_pieces.proofs.count.Goals as goal

pub overflow_add-found : goal.overflow_add-found
overflow_add-found c =
    omega (arith, c.loop-piece.invariant, ap length c.in-Some.ensures.steps, length-pieces_from c.args.n c.args.a c.args.b c.args.n 0, c.requires.first)

pub returns-clause-least : goal.returns-clause-least
returns-clause-least c blocks all covers =
    omega (arith, c.loop-piece.invariant, least c.args.a c.args.b c.args.n blocks all covers)

pub returns-clause-few : goal.returns-clause-few
returns-clause-few c slot_a slot_b alike =
    omega (arith, c.loop-piece.invariant, few c.args.a c.args.b c.args.n slot_a slot_b alike)
