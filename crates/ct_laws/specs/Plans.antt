-- Two examples of what a call takes: of the first create of a file system, and of the first fill after it.
use Rattle.std.specs.Prelude.{◌≡◌, ◌≢◌, ℕ, ◌*◌, ◌^◌, ◌≤◌, List, [], ◌∷◌}
use Rattle.ct_base.specs.Format.{IsFormatted}
use Rattle.ct_base.specs.Inode.{inode, Partition, nth, live_parts}
use Rattle.ct_base.specs.Plan.{create_plan}
use Rattle.ct_base.specs.Rules.{Sound}
use Rattle.ct_base.specs.View.{view, inode_count}
use Rattle.ct_base.specs.Walk.{page_at}
use Rattle.ct_base.specs.Wants.{missing}
use Rattle.ct_base.specs.declared.layout.TheConstants.{LEAST_INODES, LEAST_PAGES, MOST_INODES, NO_PARTITION, PARTITION_SLOT, STAGING_SLOT, TOP_LEVEL}
use Rattle.ct_tree.specs.Checks.{names}
use Rattle.ct_tree.specs.Need.{HasNeed, IsAt}
use Rattle.ct_tree.specs.Step.{create, fill}

-- the least partition of slot 10
abbrev pub first_part : Partition
first_part = nth 0 (PARTITION_SLOT * 8 ^ TOP_LEVEL)

-- the first create in the root, on the image that a format makes
abbrev pub AFirstCreateNeeds : ℕ → Type 0
AFirstCreateNeeds need =
    (img : List ℕ) → (pages inodes : ℕ) → (path x : List ℕ) → IsFormatted img pages inodes → LEAST_PAGES ≤ pages → LEAST_INODES ≤ inodes → inodes ≤ MOST_INODES
    → names path ≡ x ∷ [] → HasNeed img (create path) need

-- the plan of a new object with a number in the root, on that image
abbrev pub ANewObjectNeeds : ℕ → ℕ → Type 0
ANewObjectNeeds number need =
    (img : List ℕ) → (pages inodes : ℕ) → IsFormatted img pages inodes → LEAST_PAGES ≤ pages → inodes ≤ MOST_INODES
    → missing img (create_plan (view img) (inode_count img) (inode (view img) 1) 0 number).wants ≡ need

-- A sound image where the root's partition and no other is live, as a first create leaves it. The lowest staging slot is empty.
pub record OnlyRootIsPlaced (img : List ℕ) : Type 0 where
  pub sound : Sound img
  pub live : live_parts (view img) (inode_count img) ≡ first_part ∷ []
  pub staging : page_at img 1 STAGING_SLOT ≡ 0

-- there, a fill from 0 on of a file without a partition
abbrev pub AFirstFillNeeds : ℕ → ℕ → Type 0
AFirstFillNeeds len need =
    (img : List ℕ) → (i byte : ℕ) → (path : List ℕ) → OnlyRootIsPlaced img → IsAt img path i → i ≢ 1 → (inode (view img) i).level ≡ NO_PARTITION
    → HasNeed img (fill path 0 len byte) need
