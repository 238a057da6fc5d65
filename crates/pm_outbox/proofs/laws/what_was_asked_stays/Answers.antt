use Rattle.pm_outbox.proofs.Fronts.{no_fewer, stays}
use Rattle.pm_outbox.proofs.laws.what_was_asked_stays.Goals as goal

pub returns-clause-stays : goal.returns-clause-stays
returns-clause-stays c = stays

pub returns-clause-more : goal.returns-clause-more
returns-clause-more c = no_fewer
