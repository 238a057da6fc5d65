-- What a call answers, by the words and the tree when it begins.
use Rattle.std.specs.Prelude.{◌≡◌, ◌⊎◌, ℕ, ◌<◌, List, [], Ok, Err, Some, None}
use Rattle.std.specs.declared.result.Result.{Result}
use Rattle.ct_base.specs.Free.{HasFreePages}
use Rattle.ct_base.specs.Inode.{free_parts, live_parts}
use Rattle.ct_base.specs.Plan.{Plan, first_free_number}
use Rattle.ct_base.specs.View.{view, inode_count}
use Rattle.ct_tree.specs.Need.{Grows, HasNeed, HasPlan, NeedsRoomIn}
use Rattle.ct_tree.specs.Runs.{CallAnswers, MakesNode}
use Rattle.ct_tree.specs.Step.{Op, refusal, step}
use Rattle.ct_tree.specs.Tree.{Tree}
use Rattle.ct_tree.specs.declared.call.Refusal.{Refusal}
use Rattle.ct_tree.specs.declared.call.Refusal.TheVariants.{NoInode, NoPartition, NoPages}
use Rattle.ct_tree.specs.declared.call.Reply.TheVariants.{Done, Refused as refused}
use Rattle.ct_call.specs.declared.mount.FsError.{FsError}
use Rattle.ct_call.specs.declared.mount.FsError.TheVariants.{Dead, Refused, Fault}

-- the call makes a node, and all inodes are live
abbrev pub LacksInode : List ℕ → Op → Type 0
LacksInode img op = MakesNode op × (first_free_number (view img) (inode_count img) ≡ None)

-- the call grows an object to the level, and no partition of the level is free
abbrev pub LacksPartition : List ℕ → Op → ℕ → Type 0
LacksPartition img op level = (i : ℕ) × Grows img op i level × (free_parts (live_parts (view img) (inode_count img)) level ≡ [])

-- so many pages are free, and the call takes more
abbrev pub LacksPages : List ℕ → Op → ℕ → ℕ → Type 0
LacksPages img op free need = HasFreePages img free × HasNeed img op need × (free < need)

-- a refusal for space
abbrev pub ForSpace : List ℕ → Op → Refusal → Type 0
ForSpace img op NoInode = LacksInode img op
ForSpace img op (NoPartition level) = ¬ LacksInode img op × LacksPartition img op level
ForSpace img op (NoPages free need) = ¬ LacksInode img op × ((level : ℕ) → ¬ LacksPartition img op level) × LacksPages img op free need
ForSpace img op r = ⊥

-- the call lacks nothing of partitions and pages, or it does and this says so
abbrev pub SpaceAnswers : {T : Type 0} → List ℕ → Op → Result T Refusal → Type 0
SpaceAnswers img op (Ok value) = ((level : ℕ) → ¬ LacksPartition img op level) × ((free need : ℕ) → ¬ LacksPages img op free need)
SpaceAnswers img op (Err r) = ForSpace img op r

-- the call has this plan and no other, and where it grows an object there is one
pub record HasOnlyPlan (img : List ℕ) (op : Op) (plan : Plan) : Type 0 where
  pub has : HasPlan img op plan
  pub only : (other : Plan) → HasPlan img op other → other ≡ plan
  pub object : (level : ℕ) → plan.growth ≡ Some level → (i : ℕ) × NeedsRoomIn img op i

-- nothing stands against the call: no check of the tree fails, and there is space
pub record CanStart (img : List ℕ) (t : Tree) (op : Op) : Type 0 where
  pub allowed : refusal t op ≡ None
  pub inode : ¬ LacksInode img op
  pub partition : (level : ℕ) → ¬ LacksPartition img op level
  pub pages : (free need : ℕ) → ¬ LacksPages img op free need

-- the tree refuses the call, or else it is refused for space
abbrev pub IsRefused : List ℕ → Tree → Op → Refusal → Type 0
IsRefused img t op r = (refusal t op ≡ Some r) ⊎ ((refusal t op ≡ None) × ForSpace img op r)

-- the call answers so: each refusal exactly where its cause holds and none before it does
abbrev pub IsAnswer : {T : Type 0} → List ℕ → Tree → Op → Result T FsError → Type 0
IsAnswer img t op (Ok value) = CanStart img t op
IsAnswer img t op (Err Dead) = ⊥
IsAnswer img t op (Err (Refused r)) = IsRefused img t op r
IsAnswer img t op (Err Fault) = CanStart img t op

-- a call that is prepared can start, or is refused as it should be
abbrev pub IsPrepared : {T : Type 0} → List ℕ → Tree → Op → Result T Refusal → Type 0
IsPrepared img t op (Ok value) = CanStart img t op
IsPrepared img t op (Err r) = IsRefused img t op r

-- a tree with so many inodes may answer so: with its own reply, or with a refusal for space
abbrev pub IsTold : {T : Type 0} → ℕ → Tree → Op → Result T FsError → Type 0
IsTold count t op (Ok value) = CallAnswers count t op Done (step t op).1
IsTold count t op (Err Dead) = ⊥
IsTold count t op (Err (Refused r)) = CallAnswers count t op (refused r) t
IsTold count t op (Err Fault) = Unit {0}
