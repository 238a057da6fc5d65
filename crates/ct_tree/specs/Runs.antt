-- Which replies a list of items may have, from one tree to another.
use Rattle.std.specs.Prelude.{◌≡◌, ℕ, ◌<◌, ◌≤◌, ◌⊎◌, List, [], ◌∷◌, IsNone}
use Rattle.ct_base.specs.Inode.{IsPart, part_bytes}
use Rattle.ct_base.specs.declared.layout.TheConstants.{NO_PARTITION, PARTITION_SLOTS, TOP_LEVEL}
use Rattle.ct_tree.specs.Tree.{Tree, nodes}
use Rattle.ct_tree.specs.Step.{Op, create, mkdir, read, stat, list, locate, size_at, refusal, step}
use Rattle.ct_tree.specs.declared.call.Refusal.{Refusal}
use Rattle.ct_tree.specs.declared.call.Refusal.TheVariants.{NoInode, NoPartition, NoPages}
use Rattle.ct_tree.specs.declared.call.Reply.{Reply}
use Rattle.ct_tree.specs.declared.call.Reply.TheVariants.{At, Refused, BadLine}

-- a line of a script: a call, or none
pub data Item : Type 0 where
  call : Op → Item
  bad : Item

-- whether a call makes a node
abbrev pub MakesNode : Op → Type 0
MakesNode (create path) = Unit {0}
MakesNode (mkdir path) = Unit {0}
MakesNode op = ⊥

-- whether a call may want space: all may but those that only look
abbrev pub WantsSpace : Op → Type 0
WantsSpace (read path off len) = ⊥
WantsSpace (stat path) = ⊥
WantsSpace (list path) = ⊥
WantsSpace (locate path) = ⊥
WantsSpace op = Unit {0}

-- a file of the size may lie there: in a partition that holds it, or nowhere where it is empty
abbrev pub MayLieAt : ℕ → ℕ → ℕ → Type 0
MayLieAt size base level =
    ((level ≡ NO_PARTITION) × (base ≡ 0) × (size ≡ 0)) ⊎ (IsPart (record { base = base; level = level }) × (size ≤ part_bytes level))

-- where the file at a path lies is a choice
abbrev pub Locates : Tree → Op → ℕ → ℕ → Tree → Type 0
Locates t (locate path) base level t' = IsNone (refusal t (locate path)) × MayLieAt (size_at t path) base level × (t' ≡ t)
Locates t op base level t' = ⊥

-- the reply and the tree of the table; a node is made only where there is an inode
abbrev pub BySteps : ℕ → Tree → Op → Reply → Tree → Type 0
BySteps c t op reply t' = ((reply, t') ≡ step t op) × (IsNone (refusal t op) → MakesNode op → nodes t < c)

-- no inode is left
abbrev pub WantsInode : ℕ → Tree → Op → Type 0
WantsInode c t op = IsNone (refusal t op) × MakesNode op × (nodes t ≡ c)

-- a refusal for space, which leaves the tree
abbrev pub ForSpace : ℕ → Tree → Op → Refusal → Type 0
ForSpace c t op NoInode = WantsInode c t op
ForSpace c t op (NoPartition level) = IsNone (refusal t op) × WantsSpace op × (PARTITION_SLOTS ≤ nodes t) × (WantsInode c t op → ⊥) × (level ≤ TOP_LEVEL)
ForSpace c t op (NoPages free need) = IsNone (refusal t op) × WantsSpace op × (WantsInode c t op → ⊥) × (free < need)
ForSpace c t op r = ⊥

-- a call may have the reply, and leave the second tree
abbrev pub CallAnswers : ℕ → Tree → Op → Reply → Tree → Type 0
CallAnswers c t op (Refused r) t' = BySteps c t op (Refused r) t' ⊎ (ForSpace c t op r × (t' ≡ t))
CallAnswers c t op (At base level) t' = Locates t op base level t'
CallAnswers c t op reply t' = BySteps c t op reply t'

-- the item may have the reply, and leave the second tree
abbrev pub Answers : ℕ → Tree → Item → Reply → Tree → Type 0
Answers c t bad reply t' = (reply ≡ BadLine) × (t' ≡ t)
Answers c t (call op) reply t' = CallAnswers c t op reply t'

-- the items may have these replies, one after another
abbrev pub Runs : ℕ → Tree → List Item → List Reply → Tree → Type 0
Runs c t [] [] t' = t' ≡ t
Runs c t (item ∷ items) (reply ∷ replies) t' = (mid : Tree) × Answers c t item reply mid × Runs c mid items replies t'
Runs c t [] (reply ∷ replies) t' = ⊥
Runs c t (item ∷ items) [] t' = ⊥
