-- What a removal asks of the words.
use Rattle.std.specs.Prelude.{ℕ, List}
use Rattle.ct_tree.specs.Lands.{files}
use Rattle.ct_commit.specs.Rest.{IsAtRest}
use Rattle.ct_find.specs.Entries.{IsLeaf}

-- words at rest, and an entry that may go with its object
pub record IsAsked (w : List ℕ) (dir offset number : ℕ) : Type 0 where
  pub rest : IsAtRest w
  pub leaf : IsLeaf (files w) dir offset number
