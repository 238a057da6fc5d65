-- What holds of a mounted file system between its calls.
use Rattle.std.specs.Prelude.{◌≡◌, ℕ, ◌+◌, ◌*◌, ◌<◌, ◌≤◌, true, false, List}
use Rattle.ct_base.specs.Inode.{IsIn, inode}
use Rattle.ct_base.specs.Rules.{Owns, part_of}
use Rattle.ct_base.specs.View.{view, inode_count}
use Rattle.ct_base.specs.Wants.{Want, is_wanted}
use Rattle.ct_base.specs.declared.layout.TheConstants.{FILE_KIND, PAGE_BYTES, PARTITION_SLOT, SLOT_PAGES, STAGING_SLOT, STAGING_SLOTS}
use Rattle.ct_frames.specs.Free.{FreePages}

-- a device, and which of its pages are free
pub record Volume (D : Type 0) : Type 0 where
  pub dev : D
  pub frames : FreePages

-- the pages that are wanted above the staging slots lie in live partitions, and none in a staging slot
pub record AreOwned (img : List ℕ) (wants : List Want) : Type 0 where
  pub pages : (p : ℕ) → PARTITION_SLOT * SLOT_PAGES ≤ p → is_wanted wants 4 p ≡ true → (i : ℕ) × Owns (view img) (inode_count img) i × IsIn (part_of (view img) i) (p * PAGE_BYTES)
  pub staging : (k : ℕ) → k < STAGING_SLOTS → is_wanted wants 1 (STAGING_SLOT + k) ≡ false

-- no page that is wanted above the staging slots lies in the partition of a live file
abbrev pub OffFiles : List ℕ → List Want → Type 0
OffFiles img wants = (p : ℕ) → PARTITION_SLOT * SLOT_PAGES ≤ p → is_wanted wants 4 p ≡ true → (i : ℕ) → Owns (view img) (inode_count img) i → (inode (view img) i).kind ≡ FILE_KIND → IsIn (part_of (view img) i) (p * PAGE_BYTES) → ⊥
