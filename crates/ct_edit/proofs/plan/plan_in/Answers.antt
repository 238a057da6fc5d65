use Rattle.std.proofs.Common.{◌++◌, ap, ◌∙◌}
use Rattle.ct_edit.proofs.plan.plan_in.Goals as goal

pub returns-clause-wants : goal.returns-clause-wants
returns-clause-wants c level = c.plan_with.ensures.wants ∙ c.push_all.ensures ∙ ap (λ l. c.args.grown ++ l) (c.write_wants.ensures level)
