use Rattle.std.proofs.Common.{reverse, ap}
use Rattle.pm_trace.proofs.Chosen.{settled_start}
use Rattle.pm_trace.proofs.trace.TracePm.new.Goals as goal

pub returns-clause-settled : goal.returns-clause-settled
returns-clause-settled c = settled_start c.in-Ok.start.items (reverse c.in-Ok-with_capacity.steps.items) (ap reverse c.in-Ok-with_capacity.ensures.items)
