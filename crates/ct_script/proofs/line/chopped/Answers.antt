use Rattle.ct_script.proofs.Lines.{chopped_drops, chopped_keeps}
use Rattle.ct_script.proofs.line.chopped.Goals as goal

pub returns-then-last-eq13-clause-value : goal.returns-then-last-eq13-clause-value
returns-then-last-eq13-clause-value c = chopped_drops _ _ _ c.in-Some.ensures.cases.0 c.if-last-eq13.true

pub returns-else-last-eq13-clause-value : goal.returns-else-last-eq13-clause-value
returns-else-last-eq13-clause-value c = chopped_keeps _ _ _ c.in-Some.ensures.cases.0 c.if-last-eq13.false
