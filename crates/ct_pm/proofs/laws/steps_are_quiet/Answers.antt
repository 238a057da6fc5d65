use Rattle.std.specs.Prelude.{Contains}
use Rattle.ct_pm.proofs.Quiet.{quiet_one_store, quiet_one_flush, quiet_one_fence, quiet_then}
use Rattle.ct_pm.proofs.laws.steps_are_quiet.Goals as goal

pub returns-clause-store : goal.returns-clause-store
returns-clause-store c = quiet_one_store

pub returns-clause-flush : goal.returns-clause-flush
returns-clause-flush c = quiet_one_flush

pub returns-clause-fence : goal.returns-clause-fence
returns-clause-fence c = quiet_one_fence

pub returns-clause-then : goal.returns-clause-then
returns-clause-then c = λ moved old mid new first second. quiet_then (Contains moved) (λ word is. is) first second
