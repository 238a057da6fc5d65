use Rattle.ct_tree.specs.Lands.{files}
use Rattle.ct_path.specs.Meets.{Ahead}
use Rattle.ct_path.proofs.way.follow.Given as goal

-- the names that are left lead on from the inode
abbrev pub invariant-loop-name : goal.invariant-loop-name
invariant-loop-name g l = Ahead (files (g.D.Pm.words l.dev)) l.fn.names l.name-iterator l.number
