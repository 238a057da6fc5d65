-- The plan of a call on an image that stands for a tree, how many pages it takes, and the level to which an object grows.
use Rattle.std.specs.Prelude.{◌≡◌, ℕ, ◌⊎◌, ◌==◌, true, false, if◌then◌else◌, List, [], length, Some}
use Rattle.std.specs.Str.{bytes_eq}
use Rattle.ct_base.specs.View.{view, inode_count}
use Rattle.ct_base.specs.Inode.{inode}
use Rattle.ct_base.specs.Slots.{free_slot}
use Rattle.ct_base.specs.Named.{Leads}
use Rattle.ct_base.specs.Wants.{missing}
use Rattle.ct_base.specs.Plan.{Plan, no_plan, plan_of, give_up_wants, first_free_number, create_plan, entry_plan, write_plan, truncate_plan, exchange_plan}
use Rattle.ct_tree.specs.Lands.{files}
use Rattle.ct_tree.specs.Checks.{names}
use Rattle.ct_tree.specs.Resolve.{parent}
use Rattle.ct_tree.specs.Step.{Op, create, mkdir, write, fill, append, read, truncate, unlink, rmdir, rename, exchange, stat, list, locate}

-- the path leads to this object
abbrev pub IsAt : List ℕ → List ℕ → ℕ → Type 0
IsAt img path i = Leads (files img) 1 (names path) i

-- the path without its last name does
abbrev pub IsParentAt : List ℕ → List ℕ → ℕ → Type 0
IsParentAt img path i = Leads (files img) 1 (parent (names path)) i

-- a new object: its entry in the directory, and its inode, which is the lowest free one
abbrev pub PlansCreate : List ℕ → List ℕ → Plan → Type 0
PlansCreate img path plan =
    (i : ℕ) × (number : ℕ) × IsParentAt img path i × (first_free_number (view img) (inode_count img) ≡ Some number)
    × (plan ≡ create_plan (view img) (inode_count img) (inode (view img) i) (free_slot (files img i)) number)

abbrev pub PlansWrite : List ℕ → List ℕ → ℕ → ℕ → Plan → Type 0
PlansWrite img path off len plan = (i : ℕ) × IsAt img path i × (plan ≡ write_plan (view img) (inode_count img) (inode (view img) i) off len)

-- an object goes, and gives its partition up
abbrev pub PlansRemoval : List ℕ → List ℕ → Plan → Type 0
PlansRemoval img path plan = (i : ℕ) × IsAt img path i × (plan ≡ plan_of (give_up_wants (inode (view img) i)))

-- a new name, in the same directory or in another
abbrev pub PlansNewName : List ℕ → List ℕ → List ℕ → Plan → Type 0
PlansNewName img path to plan =
    ((i : ℕ) → IsAt img to i → ⊥) × ((i : ℕ) × (k : ℕ) × IsParentAt img path i × IsParentAt img to k
    × (plan ≡ (if i == k then no_plan else entry_plan (view img) (inode_count img) (inode (view img) k) (free_slot (files img k)) [])))

-- the same name, one that replaces, or a new one
abbrev pub PlansRename : List ℕ → List ℕ → List ℕ → Plan → Type 0
PlansRename img path to plan =
    ((bytes_eq path to ≡ true) × (plan ≡ no_plan)) ⊎ ((bytes_eq path to ≡ false) × (PlansRemoval img to plan ⊎ PlansNewName img path to plan))

-- the plan of a call that no check of the tree refuses
abbrev pub HasPlan : List ℕ → Op → Plan → Type 0
HasPlan img (create path) plan = PlansCreate img path plan
HasPlan img (mkdir path) plan = PlansCreate img path plan
HasPlan img (write path off bytes) plan = PlansWrite img path off (length bytes) plan
HasPlan img (fill path off len byte) plan = PlansWrite img path off len plan
HasPlan img (append path bytes) plan =
    (i : ℕ) × IsAt img path i × (plan ≡ write_plan (view img) (inode_count img) (inode (view img) i) (inode (view img) i).size (length bytes))
HasPlan img (read path off len) plan = plan ≡ no_plan
HasPlan img (truncate path len) plan = (i : ℕ) × IsAt img path i × (plan ≡ truncate_plan (view img) (inode_count img) (inode (view img) i) len)
HasPlan img (unlink path) plan = PlansRemoval img path plan
HasPlan img (rmdir path) plan = PlansRemoval img path plan
HasPlan img (rename path to) plan = PlansRename img path to plan
HasPlan img (exchange path off other other_off len) plan =
    (i : ℕ) × (j : ℕ) × IsAt img path i × IsAt img other j
    × (plan ≡ (if len == 0 then no_plan else exchange_plan (inode (view img) i) off (inode (view img) j) other_off len))
HasPlan img (stat path) plan = plan ≡ no_plan
HasPlan img (list path) plan = plan ≡ no_plan
HasPlan img (locate path) plan = plan ≡ no_plan

-- the call takes so many pages
abbrev pub HasNeed : List ℕ → Op → ℕ → Type 0
HasNeed img op need = (plan : Plan) × HasPlan img op plan × (need ≡ missing img plan.wants)

-- the object in which the call needs room: the directory of a new entry, or the file that the call writes
abbrev pub NeedsRoomIn : List ℕ → Op → ℕ → Type 0
NeedsRoomIn img (create path) i = IsParentAt img path i
NeedsRoomIn img (mkdir path) i = IsParentAt img path i
NeedsRoomIn img (write path off bytes) i = IsAt img path i
NeedsRoomIn img (fill path off len byte) i = IsAt img path i
NeedsRoomIn img (append path bytes) i = IsAt img path i
NeedsRoomIn img (truncate path len) i = IsAt img path i
NeedsRoomIn img (rename path to) i = IsParentAt img to i
NeedsRoomIn img op i = ⊥

-- the call grows this object to this level
abbrev pub Grows : List ℕ → Op → ℕ → ℕ → Type 0
Grows img op i level = (plan : Plan) × HasPlan img op plan × (plan.growth ≡ Some level) × NeedsRoomIn img op i
