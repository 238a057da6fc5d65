use Rattle.std.proofs.Common.{◌≤◌, ◌^◌, arith}
use Rattle.std.proofs.Math.Nat.{pow-le-pow_right, one-le-pow}
use Rattle.ct_placing.proofs.inodes.bytes_of.Goals as goal

pub pow-requires : goal.pow-requires
pow-requires c =
    let most : 8 ^ c.args.level ≤ 8 ^ 9 = pow-le-pow_right {n = 8} (omega arith) {i = c.args.level} {j = 9} c.requires in
    omega (arith, most)

pub overflow_mul-result : goal.overflow_mul-result
overflow_mul-result c =
    let most : 8 ^ c.args.level ≤ 8 ^ 9 = pow-le-pow_right {n = 8} (omega arith) {i = c.args.level} {j = 9} c.requires in
    omega (arith, most, c.pow.ensures)

pub returns-clause-some : goal.returns-clause-some
returns-clause-some c = omega (arith, one-le-pow c.args.level 8 (omega arith), c.pow.ensures)
