use Rattle.std.proofs.Common.{◌+◌, ◌*◌, refl, arith}
use Rattle.check_tests.proofs.answers.free_pages.Goals as goal

pub check-requires-clause-staging : goal.check-requires-clause-staging
check-requires-clause-staging g c = λ k lt. c.if-not-are_zero.ensures.0 refl (33 * 512 + 2 + k) (omega arith) (omega arith)
