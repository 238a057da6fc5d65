use Rattle.ct_plan.proofs.height.+alike.Given as goal

abbrev pub decreases-alike : goal.decreases-alike
decreases-alike l = l.top
