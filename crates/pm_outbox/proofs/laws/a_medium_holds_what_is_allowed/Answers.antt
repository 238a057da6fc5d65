use Rattle.pm_outbox.proofs.Fronts.{front_allowed, since_allowed}
use Rattle.pm_outbox.proofs.Medium.{asked_allowed}
use Rattle.pm_outbox.proofs.laws.a_medium_holds_what_is_allowed.Goals as goal

pub returns-clause-all : goal.returns-clause-all
returns-clause-all c = asked_allowed

pub returns-clause-front : goal.returns-clause-front
returns-clause-front c = front_allowed

pub returns-clause-since : goal.returns-clause-since
returns-clause-since c = since_allowed
