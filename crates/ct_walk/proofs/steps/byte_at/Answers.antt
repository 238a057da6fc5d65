use Rattle.std.proofs.Common.{arith, ◌%◌, ◌/◌}
use Rattle.std.proofs.Math.Nat.{one-le-pow}
use Rattle.ct_walk.proofs.Entries.{word_there, byte_pow}
use Rattle.ct_walk.proofs.steps.byte_at.Goals as goal

pub load-word-requires : goal.load-word-requires
load-word-requires g c =
    omega (arith, word_there (g.D.Pm.words c.args.dev.now) 4 c.in-Some.page (c.get-offset.result % 4096 / 8) c.requires.tables c.in-Some.ensures.page (omega arith), c.number.ensures)

pub pow-requires : goal.pow-requires
pow-requires g c = byte_pow (c.get-offset.result % 4096 % 8) (omega arith)

pub nonzero_div-result : goal.nonzero_div-result
nonzero_div-result g c = omega (arith, c.pow.ensures, one-le-pow (c.get-offset.result % 4096 % 8) 256 (omega arith))
