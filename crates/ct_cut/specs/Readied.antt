-- What is there before a partition is given up.
use Rattle.std.specs.Prelude.{◌≡◌, ◌≢◌, ℕ, ◌/◌, ◌<◌, ◌≤◌, ◌+◌, List, length}
use Rattle.ct_base.specs.declared.inode.Inode.{Inode}
use Rattle.ct_base.specs.declared.layout.TheConstants.{ADDRESS_END, PAGE_WORDS, PARTITION_SLOT, SLOT_PAGES, SLOT_SPAN, STAGING_SLOT}
use Rattle.ct_base.specs.View.{view}
use Rattle.ct_base.specs.Walk.{word, byte, page_at}
use Rattle.ct_stage.specs.Staged.{IsLaid}
use Rattle.ct_cut.specs.GivenUp.{CanGiveUp}

-- The partition can be given up. Off root slot 2 all is as before.
pub record Readied (old new : List ℕ) (f : Inode) : Type 0 where
  pub can : CanGiveUp new f
  pub laid : IsLaid new
  pub seen : view new ≡ view old
  pub pages : (p : ℕ) → p / SLOT_PAGES ≢ STAGING_SLOT → page_at new 4 p ≡ page_at old 4 p
  pub others : (v : ℕ) → v < ADDRESS_END → v / SLOT_SPAN ≢ STAGING_SLOT → byte new v ≡ byte old v
  pub roots : (k : ℕ) → STAGING_SLOT + 1 ≤ k → k < PARTITION_SLOT → page_at new 1 k ≡ page_at old 1 k
  pub head : (w : ℕ) → w < PAGE_WORDS → word new w ≡ word old w
  pub size : length new ≡ length old
