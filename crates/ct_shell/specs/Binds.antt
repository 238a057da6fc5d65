-- What the reply to an item tells of the words as they read when it is made.
use Rattle.std.specs.Prelude.{◌≡◌, ℕ, List, Some, None}
use Rattle.ct_call.specs.Answers.{CanStart, ForSpace}
use Rattle.ct_look.specs.Looks.{IsPlaceAt}
use Rattle.ct_tree.specs.Runs.{Item, bad, call}
use Rattle.ct_tree.specs.Step.{Op, locate, refusal}
use Rattle.ct_tree.specs.Tree.{Tree}
use Rattle.ct_tree.specs.declared.call.Refusal.{Refusal}
use Rattle.ct_tree.specs.declared.call.Refusal.TheVariants.{NoInode, NoPages, NoPartition}
use Rattle.ct_tree.specs.declared.call.Reply.{Reply}
use Rattle.ct_tree.specs.declared.call.Reply.TheVariants.{At, Done, Refused}

-- the file to which the path leads has this base and this level
abbrev pub IsPlace : List ℕ → Op → ℕ → ℕ → Type 0
IsPlace words (locate path) base level = IsPlaceAt words path (base, level)
IsPlace words op base level = ⊥

-- a refusal for space
abbrev pub IsSpace : Refusal → Type 0
IsSpace NoInode = Unit {0}
IsSpace (NoPartition level) = Unit {0}
IsSpace (NoPages free need) = Unit {0}
IsSpace r = ⊥

-- A refusal for space comes where no check of the tree fails: no inode is free, no partition of the level that the call grows an
-- object to, or fewer pages than it needs, and the numbers are those of the words. Any other is the first check that fails.
abbrev pub BindsRefusal : List ℕ → Tree → Op → Refusal → Type 0
BindsRefusal words t op NoInode = (refusal t op ≡ None) × ForSpace words op NoInode
BindsRefusal words t op (NoPartition level) = (refusal t op ≡ None) × ForSpace words op (NoPartition level)
BindsRefusal words t op (NoPages free need) = (refusal t op ≡ None) × ForSpace words op (NoPages free need)
BindsRefusal words t op r = refusal t op ≡ Some r

-- a call that does something has all that it needs, and a place is the file's
abbrev pub Binds : List ℕ → Tree → Item → Reply → Type 0
Binds words t bad reply = Unit {0}
Binds words t (call op) Done = CanStart words t op
Binds words t (call op) (Refused r) = BindsRefusal words t op r
Binds words t (call op) (At base level) = IsPlace words op base level
Binds words t (call op) reply = Unit {0}
