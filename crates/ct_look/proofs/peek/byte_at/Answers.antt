use Rattle.std.proofs.Common.{arith, ◌%◌}
use Rattle.std.proofs.Math.Nat.{one-le-pow}
use Rattle.ct_walk.proofs.Entries.{byte_pow}
use Rattle.ct_look.proofs.peek.byte_at.Goals as goal

pub pow-requires : goal.pow-requires
pow-requires g c = byte_pow (c.get-offset.result % 4096 % 8) (omega arith)

pub nonzero_div-result : goal.nonzero_div-result
nonzero_div-result g c = omega (arith, c.pow.ensures, one-le-pow (c.get-offset.result % 4096 % 8) 256 (omega arith))
