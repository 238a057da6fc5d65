use Rattle.ct_base.specs.View.{inode_count, view}
use Rattle.ct_placing.proofs.Collecting.{Passes}
use Rattle.ct_placing.proofs.extents.are_mapped_in_parts.Given as goal

abbrev pub invariant-loop-extent : goal.invariant-loop-extent
invariant-loop-extent g l = Passes (g.D.Pm.words l.dev) (view (g.D.Pm.words l.dev)) (inode_count (g.D.Pm.words l.dev)) l.extents.items l.extent-index l.page
