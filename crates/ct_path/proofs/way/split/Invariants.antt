use Rattle.std.proofs.Common.{◌∷◌}
use Rattle.ct_tree.specs.Lands.{files}
use Rattle.ct_path.proofs.Parents.{Halfway}
use Rattle.ct_path.proofs.way.split.Given as goal

-- the names that are left, but for their last, lead on from the inode
abbrev pub invariant-loop-name : goal.invariant-loop-name
invariant-loop-name g l = Halfway (files (g.D.Pm.words l.dev)) (l.fn.first ∷ l.fn.rest) l.last l.name-iterator l.number
