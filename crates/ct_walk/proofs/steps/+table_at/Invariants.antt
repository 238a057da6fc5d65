use Rattle.ct_walk.proofs.steps.+table_at.Given as goal

abbrev pub decreases-table_at : goal.decreases-table_at
decreases-table_at g l = l.depth
