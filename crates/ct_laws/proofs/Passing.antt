-- What passed is a run of the tree.
use Rattle.std.proofs.Common.{ℕ, List, [], ◌∷◌}
use Rattle.ct_shell.specs.Moments.{Moment, Passes}
use Rattle.ct_tree.specs.Runs.{Item, Runs}
use Rattle.ct_tree.specs.Tree.{Tree}
use Rattle.ct_tree.specs.declared.call.Reply.{Reply}

pub passes_run : (c : ℕ) (t left : Tree) (items : List Item) (replies : List Reply) (from to : Moment) → Passes c t items replies left from to → Runs c t items replies left
passes_run c t left [] [] from to p = p.0
passes_run c t left [] (reply ∷ replies) from to p = p
passes_run c t left (item ∷ items) [] from to p = p
passes_run c t left (item ∷ items) (reply ∷ replies) from to p = (p.0, p.2.answers, passes_run c p.0 left items replies p.1 to p.3)
