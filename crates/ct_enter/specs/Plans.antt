-- The plan of a new entry.
use Rattle.std.specs.Prelude.{◌≡◌, ℕ, ◌+◌, ◌*◌, ◌%◌, ◌≤◌, nat_lt, if◌then◌else◌, List, [], ◌∷◌, ◌++◌, Option, None}
use Rattle.ct_base.specs.Headers.{StandFor}
use Rattle.ct_base.specs.declared.inode.Inode.{Inode}
use Rattle.ct_base.specs.Inode.{live_parts}
use Rattle.ct_base.specs.Plan.{Plan, create_plan, grows_to, page_want}
use Rattle.ct_base.specs.Rules.{IsPlaced}
use Rattle.ct_base.specs.View.{view, inode_count}
use Rattle.ct_base.specs.Walk.{AreTables}
use Rattle.ct_base.specs.Wants.{Want}
use Rattle.ct_base.specs.declared.layout.TheConstants.{DIRECTORY_KIND, ENTRY_BYTES, INODE_BYTES, SLOT_SPAN}
use Rattle.ct_call.specs.declared.plan.CallPlan.{CallPlan}
use Rattle.ct_call.specs.Plans.{IsGrowth, IsOpen, grown_wants, level_of, part_then}

-- What is known of an image, of directory f and of the offset of a slot when the plan is made.
pub record CanPlan (img : List ℕ) (f : Inode) (offset : ℕ) : Type 0 where
  pub tables : AreTables img
  pub stand : StandFor (view img) (live_parts (view img) (inode_count img))
  pub placed : IsPlaced f
  pub dir : f.kind ≡ DIRECTORY_KIND
  pub aligned : offset % ENTRY_BYTES ≡ 0
  pub within : offset ≤ f.size
  pub fits : offset + ENTRY_BYTES ≤ SLOT_SPAN

-- the wants of a slot at an address and of the inode with a number: a page each
abbrev pub entry_wants : ℕ → ℕ → List Want
entry_wants v number = page_want v ∷ page_want (INODE_BYTES * number) ∷ []

-- the level to which a directory grows for a slot at an offset
abbrev pub slot_growth : Inode → ℕ → Option ℕ
slot_growth f offset = if nat_lt f.size (offset + ENTRY_BYTES) then grows_to f (offset + ENTRY_BYTES) else None

-- the plan of a new object with a number, whose entry goes to an offset of directory f
abbrev pub plan_for : List ℕ → Inode → ℕ → ℕ → Plan
plan_for img f offset number = create_plan (view img) (inode_count img) f offset number

-- the plan asks for the pages of the slot and of the inode, in the partition that the directory has then
pub record IsEntryPlan (img : List ℕ) (f : Inode) (offset number : ℕ) (plan : CallPlan) : Type 0 where
  pub growth : level_of plan.growth ≡ slot_growth f offset
  pub part : IsGrowth img plan.growth
  pub rest : IsOpen plan.growth → plan.rest ≡ entry_wants ((part_then img f (level_of plan.growth)).base + offset) number
  pub wants : IsOpen plan.growth → plan.wants ≡ grown_wants img f (level_of plan.growth) ++ plan.rest
