use Rattle.ct_walk.proofs.absent.+look_at.Given as goal

abbrev pub decreases-look_at : goal.decreases-look_at
decreases-look_at g l = l.depth
