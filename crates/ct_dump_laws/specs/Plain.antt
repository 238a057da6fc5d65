-- What the items of a script make of a plain tree, and what they reply.
use Rattle.std.specs.Prelude.{List, [], ◌∷◌}
use Rattle.ct_tree.specs.Runs.{Item, bad, call}
use Rattle.ct_tree.specs.Step.{step}
use Rattle.ct_tree.specs.Tree.{Tree}
use Rattle.ct_tree.specs.declared.call.Reply.{Reply}
use Rattle.ct_tree.specs.declared.call.Reply.TheVariants.{BadLine}

-- the tree after the items, one after another
abbrev pub made_from : Tree → List Item → Tree
made_from t [] = t
made_from t (call op ∷ items) = made_from (step t op).1 items
made_from t (bad ∷ items) = made_from t items

-- the reply of each
abbrev pub replies_from : Tree → List Item → List Reply
replies_from t [] = []
replies_from t (call op ∷ items) = (step t op).0 ∷ replies_from (step t op).1 items
replies_from t (bad ∷ items) = BadLine ∷ replies_from t items
