use Rattle.ct_base.specs.View.{inode_count, view}
use Rattle.ct_placing.specs.Extents.{Collects}
use Rattle.ct_placing.proofs.extents.extents_of.Given as goal

abbrev pub invariant-loop-n : goal.invariant-loop-n
invariant-loop-n g l = Collects (view (g.D.Pm.words l.dev)) (inode_count (g.D.Pm.words l.dev)) l.n l.extents.items
