use Rattle.std.proofs.Common.{◌≡◌, ℕ, ◌+◌, ◌-◌, ◌/◌, ◌%◌, ◌^◌, ap, arith}
use Rattle.ct_placing.proofs.Addresses.{high_range, pow_small, range_high, range_low}
use Rattle.ct_placing.proofs.header.range_at.Goals.{else-level-le-TOP_LEVEL-via-then-level-le-TOP_LEVEL+else-number-pow, else-level-le-TOP_LEVEL-via-else-level-le-TOP_LEVEL}
use Rattle.ct_placing.proofs.header.range_at.Goals as goal

abbrev level_at : ℕ → ℕ
level_at a = 1 + (a - 549755813888 - 68719476736) / 8589934592

pub returns-then-offset-lt-LOWEST-clause-some : goal.returns-then-offset-lt-LOWEST-clause-some
returns-then-offset-lt-LOWEST-clause-some c = range_low c.args.address c.requires.aligned c.requires.first (omega (arith, c.if-offset-lt-LOWEST.true))

pub pow-requires : goal.pow-requires
pow-requires c = omega (arith, pow_small (level_at c.args.address))

pub overflow_mul-pow : goal.overflow_mul-pow
overflow_mul-pow c = omega (arith, pow_small (level_at c.args.address), c.pow.ensures)

pub returns-then-number-pow-clause-some : goal.returns-then-number-pow-clause-some
returns-then-number-pow-clause-some c =
    let a = c.args.address in
    range_high a (level_at a) ((a - 549755813888 - 68719476736) % 8589934592 / 8) c.requires.aligned (omega (arith, c.if-offset-lt-LOWEST.false)) (omega arith) (omega arith)
    (omega (arith, c.if-level-le-TOP_LEVEL.true)) (omega (arith, c.if-number-pow.true, c.pow.ensures))

pub returns-else-level-le-TOP_LEVEL-clause-none : goal.returns-else-level-le-TOP_LEVEL-clause-none
returns-else-level-le-TOP_LEVEL-clause-none c = λ n j r.
    let a = c.args.address in
    let is = high_range a n j (omega (arith, c.if-offset-lt-LOWEST.false)) r in
    let at : n ≡ level_at a = omega (arith, is.0) in
    let width = ap (λ k. 8 ^ (9 - k)) at in
    elim c.else-level-le-TOP_LEVEL.branch [
      | else-level-le-TOP_LEVEL-via-then-level-le-TOP_LEVEL+else-number-pow w ↦ omega (arith, is.1, width, w.pow.ensures, w.if-number-pow.false, r.number)
      | else-level-le-TOP_LEVEL-via-else-level-le-TOP_LEVEL w ↦ omega (arith, at, w.if-level-le-TOP_LEVEL.false, r.level)
    ]
