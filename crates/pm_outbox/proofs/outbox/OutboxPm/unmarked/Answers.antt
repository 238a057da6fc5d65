use Rattle.std.proofs.Common.{sym, subst}
use Rattle.ct_pm.specs.Images.{IsSettled}
use Rattle.pm_outbox.proofs.Start.{settled_start}
use Rattle.pm_outbox.proofs.outbox.OutboxPm.unmarked.Goals as goal

pub returns-clause-settled : goal.returns-clause-settled
returns-clause-settled c = subst IsSettled (sym c.start-past.ensures) (settled_start _)
