-- What was done of calls whose replies are not written.
use Rattle.std.specs.Prelude.{ℕ, ◌≤◌, List, [], map, IfOk, OnErr}
use Rattle.std.specs.declared.option.Option.{Option}
use Rattle.std.specs.declared.result.Result.{Result}
use Rattle.ct_base.specs.Causes.{Rose}
use Rattle.ct_call.specs.Calls.{Keeps}
use Rattle.ct_call.specs.Seen.{faults_in}
use Rattle.ct_call.specs.declared.mount.State.{State}
use Rattle.ct_gen.specs.Made.{made}
use Rattle.ct_tree.specs.Runs.{Item, call}
use Rattle.ct_tree.specs.Step.{Op}
use Rattle.ct_tree.specs.Tree.{Tree}
use Rattle.ct_tree.specs.declared.call.Reply.{Reply}
use Rattle.ct_shell.specs.Moments.{IsBegun, Moment, moment_in}
use Rattle.ct_shell.specs.Served.{Ran}

-- calls as items
abbrev pub items_of : List Op → List Item
items_of ops = map call ops

-- the calls of a number, with so many draws
abbrev pub workload : ℕ → ℕ → List Item
workload number count = items_of (made number count)

-- The device failed: some items were answered, and then one call was begun.
pub record Halted (c : ℕ) (start : Tree) (all : List Item) (from to : Moment) : Type 0 where
  pub rest : List Item
  pub replies : List Reply
  pub left : Tree
  pub moment : Moment
  pub ran : Ran c start left all rest replies from moment
  pub begun : IsBegun left rest moment to

-- All items were answered, and the device holds the tree that they left; the fact holds of the replies and of that tree.
pub record Answered {D : Type 0} {bound : _} (c : ℕ) (start : Tree) (all : List Item) (before after : Option (State D bound)) (Fact : List Reply → Tree → Type 0) : Type 0 where
  pub replies : List Reply
  pub left : Tree
  pub ran : Ran c start left all [] replies (moment_in before) (moment_in after)
  pub keeps : Keeps c after left
  pub fact : Fact replies left

-- What was done of items over a mount that held a tree: all of them, and what is answered tells of the replies and of the tree that
-- is left; or some, where the device failed.
pub record Tries {D T E : Type 0} {bound : _} (c : ℕ) (start : Tree) (all : List Item) (before after : Option (State D bound)) (Tells : T → List Reply → Tree → Type 0) (result : Result T E) : Type 0 where
  pub whole : IfOk result (λ value. Answered c start all before after (Tells value))
  pub halted : OnErr result (Halted c start all (moment_in before) (moment_in after))
  pub later : faults_in before ≤ faults_in after
  pub fault : OnErr result (Rose (faults_in before) (faults_in after))
