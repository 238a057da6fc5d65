-- What a call needs, before anything is stored: the plan as the code has it, and what must be known of it.
use Rattle.std.specs.Prelude.{◌≡◌, ◌≢◌, ◌⊎◌, ℕ, ◌+◌, ◌*◌, ◌/◌, ◌<◌, ◌≤◌, true, false, List, [], ◌++◌, All, map, length, Option, Some, None}
use Rattle.ct_base.specs.declared.inode.Inode.{Inode}
use Rattle.ct_base.specs.Inode.{IsIn, IsLive, IsPart, Partition, free_parts, live_parts, part, part_bytes}
use Rattle.ct_base.specs.Plan.{Plan, counted, growth_wants, next_part}
use Rattle.ct_base.specs.View.{view, inode_count}
use Rattle.ct_base.specs.Wants.{Want, is_wanted, missing}
use Rattle.ct_base.specs.declared.layout.TheConstants.{DIRECTORY_KIND, NO_PARTITION, PAGE_BYTES, PARTITION_SLOT, SLOT_PAGES, STAGING_SLOT, STAGING_SLOTS, TOP_LEVEL}
use Rattle.ct_frames.specs.Free.{FreePages}
use Rattle.ct_grow.specs.Follows.{Follows}
use Rattle.ct_call.specs.declared.plan.CallPlan.{CallPlan}
use Rattle.ct_call.specs.declared.plan.Growth.{Growth}
use Rattle.ct_call.specs.declared.plan.Growth.TheVariants.{Stays, To, Barred}

-- ---- any plan

-- the level to which the object grows
abbrev pub level_of : Growth → Option ℕ
level_of Stays = None
level_of (To level) = Some level
level_of (Barred level) = Some level

-- the level's free partitions
abbrev pub free_of : List ℕ → ℕ → List Partition
free_of img level = free_parts (live_parts (view img) (inode_count img)) level

-- a partition of the level is free exactly where the growth is not barred
abbrev pub IsGrowth : List ℕ → Growth → Type 0
IsGrowth img Stays = Unit {0}
IsGrowth img (To level) = free_of img level ≢ []
IsGrowth img (Barred level) = free_of img level ≡ []

abbrev pub IsOpen : Growth → Type 0
IsOpen Stays = Unit {0}
IsOpen (To level) = Unit {0}
IsOpen (Barred level) = ⊥

-- the plan is this one by its definition: the same growth, and where there is a partition for that, the same need
pub record Plans (img : List ℕ) (plan : Plan) (made : CallPlan) : Type 0 where
  pub growth : plan.growth ≡ level_of made.growth
  pub part : IsGrowth img made.growth
  pub need : IsOpen made.growth → missing img made.wants ≡ missing img plan.wants

-- there is a partition for the plan, and there are pages
pub record Fits (img : List ℕ) (frames : FreePages) (plan : CallPlan) : Type 0 where
  pub opens : IsOpen plan.growth
  pub part : IsGrowth img plan.growth
  pub pages : missing img plan.wants ≤ length frames.free

-- the partition that object f has then
abbrev pub part_then : List ℕ → Inode → Option ℕ → Partition
part_then img f None = part f
part_then img f (Some level) = next_part (view img) (inode_count img) level

-- what growth asks for
abbrev pub grown_wants : List ℕ → Inode → Option ℕ → List Want
grown_wants img f None = []
grown_wants img f (Some level) = growth_wants f (next_part (view img) (inode_count img) level)

-- Object i, whose inode is f, may grow so or stay, and then have more: the wants count both; each page asked for lies in its
-- partition, in the part that growth adds, and only a directory asks for pages; nothing is asked for in a staging slot.
pub record Asks (img : List ℕ) (i : ℕ) (f : Inode) (growth : Option ℕ) (wants more : List Want) : Type 0 where
  pub live : IsLive (view img) (inode_count img) i
  pub grows : (level : ℕ) → growth ≡ Some level → (level ≤ TOP_LEVEL) × ((f.level ≡ NO_PARTITION) ⊎ (f.level < level))
  pub counts : missing img wants ≡ missing img (grown_wants img f growth ++ map (counted f (part_then img f growth)) more)
  pub follows : (level : ℕ) → growth ≡ Some level → All (Follows f (next_part (view img) (inode_count img) level)) more
  pub staging : (k : ℕ) → k < STAGING_SLOTS → is_wanted more 1 (STAGING_SLOT + k) ≡ false
  pub pages : (n : ℕ) → PARTITION_SLOT * SLOT_PAGES ≤ n → is_wanted more 4 n ≡ true → (f.kind ≡ DIRECTORY_KIND) × IsPart (part_then img f growth) × IsIn (part_then img f growth) (n * PAGE_BYTES)
  pub past : (level v : ℕ) → growth ≡ Some level → f.level ≤ TOP_LEVEL → v < part_bytes f.level → is_wanted more 4 (((next_part (view img) (inode_count img) level).base + v) / PAGE_BYTES) ≡ false
