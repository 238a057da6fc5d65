use Rattle.std.proofs.Common.{arith}
use Rattle.ct_placing.proofs.Addresses.{wide_down}
use Rattle.ct_placing.proofs.headers.is_right_below.Goals as goal

pub byte_of-requires-clause-number : goal.byte_of-requires-clause-number
byte_of-requires-clause-number g c = wide_down c.args.level c.args.number (omega (arith, c.if-level-eq-TOP.false, c.requires.level)) c.requires.number
