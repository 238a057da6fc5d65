-- How a call stands when it may start, and what it has reached when it is carried out.
use Rattle.std.specs.Prelude.{◌≡◌, ℕ, List}
use Rattle.ct_base.specs.View.{inode_count}
use Rattle.ct_tree.specs.Step.{Op}
use Rattle.ct_tree.specs.Tree.{Tree}
use Rattle.ct_commit.specs.Rest.{IsAtRest}
use Rattle.ct_call.specs.Answers.{CanStart}
use Rattle.ct_call.specs.Calls.{IsChange, StandsFor, after}

-- the words are at rest and stand for the tree, and nothing stands against the call, which changes the tree
pub record Starts (words : List ℕ) (t : Tree) (op : Op) : Type 0 where
  pub change : IsChange op
  pub rest : IsAtRest words
  pub stands : StandsFor words t
  pub can : CanStart words t op

-- the words stand for the tree of the call, and there are as many inodes
pub record Reaches (old new : List ℕ) (t : Tree) (op : Op) : Type 0 where
  pub stands : StandsFor new (after t op)
  pub counted : inode_count new ≡ inode_count old
