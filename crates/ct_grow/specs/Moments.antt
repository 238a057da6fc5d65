-- What a crash may leave while an object grows.
use Rattle.std.specs.Prelude.{◌≢◌, ℕ, ◌*◌, ◌/◌, ◌≤◌, ◌⊎◌, List}
use Rattle.ct_base.specs.declared.layout.TheConstants.{PAGE_WORDS, PARTITION_SLOT, SLOT_PAGES}
use Rattle.ct_base.specs.Inode.{Partition}
use Rattle.ct_base.specs.State.{SameState}
use Rattle.ct_base.specs.Walk.{page_at}
use Rattle.ct_grow.specs.Grown.{IsReady, Promoted}

-- the device word lies on no page from root slot 10 on
abbrev pub IsSpare : List ℕ → ℕ → Type 0
IsSpare img w = (q : ℕ) → PARTITION_SLOT * SLOT_PAGES ≤ q → page_at img 4 q ≢ w / PAGE_WORDS

-- the image settles to a state in which the object has grown
pub record HasGrown (words : List ℕ) (i : ℕ) (p : Partition) (image : List ℕ) : Type 0 where
  pub after : List ℕ
  pub promoted : Promoted words after i p
  pub ready : IsReady after
  pub state : SameState after image

-- the image settles to the state before the growth or after it
abbrev pub IsBeforeOrAfter : List ℕ → ℕ → Partition → List ℕ → Type 0
IsBeforeOrAfter words i p image = SameState words image ⊎ HasGrown words i p image
