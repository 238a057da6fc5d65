-- What each form of a rename asks for, and the objects that it leaves.
use Rattle.std.specs.Prelude.{◌≡◌, ◌≢◌, ◌⊎◌, ℕ, ◌==◌, if◌then◌else◌, List, []}
use Rattle.ct_base.specs.Inode.{inode}
use Rattle.ct_base.specs.Objects.{Object}
use Rattle.ct_base.specs.Plan.{give_up_wants}
use Rattle.ct_base.specs.Slots.{slot_name}
use Rattle.ct_base.specs.View.{view}
use Rattle.ct_call.specs.declared.plan.CallPlan.{CallPlan}
use Rattle.ct_call.specs.declared.plan.Growth.TheVariants.{Stays}
use Rattle.ct_enter.specs.Makes.{IsFreshName}
use Rattle.ct_enter.specs.Plans.{IsEntryPlan}
use Rattle.ct_find.specs.Spots.{IsNextSlot}
use Rattle.ct_find.specs.Entries.{IsLeaf}
use Rattle.ct_tree.specs.Lands.{files}
use Rattle.ct_rename.specs.Moves.{CanLeave, CanMove, moved, replaced}
use Rattle.ct_rename.specs.declared.find.Form.{Form}
use Rattle.ct_rename.specs.declared.find.Form.TheVariants.{Same, New, Over}

-- the slot that an entry gets under a new name: its own within one directory, else the next of the other
abbrev pub slot_for : ℕ → ℕ → ℕ → ℕ → ℕ
slot_for d o k s = if d == k then o else s

-- the objects after the form
abbrev pub renamed : (ℕ → Object) → Form → ℕ → Object
renamed fs Same = fs
renamed fs (New e spot) = moved fs e.dir e.offset spot.dir (slot_for e.dir e.offset spot.dir spot.offset) e.number spot.name.now
renamed fs (Over e there gone) = replaced fs e.dir e.offset there.dir there.offset e.number there.number (slot_name (fs there.dir) there.offset)

-- the directory in which room is made
abbrev pub room_dir : Form → ℕ
room_dir Same = 0
room_dir (New e spot) = spot.dir
room_dir (Over e there gone) = 0

-- a plan of nothing
abbrev pub IsIdle : CallPlan → Type 0
IsIdle plan = (plan.growth ≡ Stays) × (plan.wants ≡ [])

-- the plan of a form
abbrev pub IsPlanFor : List ℕ → Form → CallPlan → Type 0
IsPlanFor img Same plan = IsIdle plan
IsPlanFor img (New e spot) plan = ((e.dir ≡ spot.dir) × IsIdle plan) ⊎ ((e.dir ≢ spot.dir) × IsEntryPlan img spot.inode spot.offset e.number plan)
IsPlanFor img (Over e there gone) plan = (plan.growth ≡ Stays) × (plan.wants ≡ give_up_wants gone)

-- what is known of a form when its plan is made, and carried out
abbrev pub CanRename : List ℕ → Form → Type 0
CanRename img Same = Unit {0}
CanRename img (New e spot) = CanLeave img e.dir e.offset e.number × IsNextSlot img spot.dir spot.inode spot.offset × IsFreshName img spot.dir spot.name.now
CanRename img (Over e there gone) =
    CanMove img e.dir e.offset there.dir there.offset e.number (slot_name (files img there.dir) there.offset) × IsLeaf (files img) there.dir there.offset there.number
    × (e.dir ≡ there.dir → e.offset ≢ there.offset) × (gone ≡ inode (view img) there.number)
