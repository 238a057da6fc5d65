use Rattle.ct_state.proofs.States.{head_of}
use Rattle.ct_check.specs.First.{body, head}
use Rattle.ct_check.proofs.Firsts.{all_hold, body_first, first_body, first_head, head_first, one_first}
use Rattle.ct_check.proofs.laws.one_mount_rule_fails_first.Goals as goal

pub returns-clause-one : goal.returns-clause-one
returns-clause-one c = one_first

pub returns-clause-head : goal.returns-clause-head
returns-clause-head c = λ img r. (head_first img r, first_head img r)

pub returns-clause-body : goal.returns-clause-body
returns-clause-body c = λ img r. (λ both. body_first img r both.0 both.1, first_body img r)

pub returns-clause-none : goal.returns-clause-none
returns-clause-none c = λ img. (λ both. all_hold img both.0 both.1, λ all. (head_of (λ r. all (head r)), λ r. all (body r)))
