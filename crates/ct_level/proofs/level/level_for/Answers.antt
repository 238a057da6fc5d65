use Rattle.std.proofs.Common.{sym, ◌≤◌, arith}
use Rattle.ct_base.specs.Inode.{part_bytes}
use Rattle.ct_level.proofs.Levels.{level_from-is}
use Rattle.ct_level.proofs.level.level_for.Goals as goal

pub returns-then-end-length_of-clause-exact : goal.returns-then-end-length_of-clause-exact
returns-then-end-length_of-clause-exact c =
    sym (level_from-is 9 0 c.args.end c.loop-level.level (omega arith) (omega arith) c.loop-level.invariant
    (λ _. let holds : c.args.end ≤ part_bytes c.loop-level.level = omega (arith, c.length_of.ensures.value) in holds))

pub returns-clause-exact : goal.returns-clause-exact
returns-clause-exact c =
    let last : 9 ≤ c.loop-level.level = c.loop-level-test.false in
    sym (level_from-is 9 0 c.args.end 9 (omega arith) (omega arith) (λ k lt. c.loop-level.invariant k (omega arith)) (λ lt. absurd (omega arith)))
