use Rattle.std.proofs.Common.{arith}
use Rattle.ct_commit.proofs.Emptying.{empty_state}
use Rattle.ct_commit.proofs.Resting.{empty_rest, empty_unstaged}
use Rattle.ct_commit.proofs.States.{closed_of}
use Rattle.ct_commit.proofs.staging_is_no_part_of_the_state.Goals as goal

pub returns-clause-rest : goal.returns-clause-rest
returns-clause-rest c = λ old new slot rest from to is. empty_rest (record { closed = closed_of rest; from = from; to = omega (arith, to); is = is }) rest

pub returns-clause-state : goal.returns-clause-state
returns-clause-state c = λ old new slot rest from to is. empty_state (record { closed = closed_of rest; from = from; to = omega (arith, to); is = is })

pub returns-clause-empty : goal.returns-clause-empty
returns-clause-empty c = λ old new slot rest from to is none. empty_unstaged (record { closed = closed_of rest; from = from; to = omega (arith, to); is = is }) none
