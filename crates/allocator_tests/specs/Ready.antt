-- Devices on which the allocator is tried.
use Rattle.std.specs.Prelude.{◌≡◌, ◌≢◌, ℕ, ◌*◌, ◌/◌, ◌<◌, ◌≤◌, true, List, length}
use Rattle.ct_base.specs.Headers.{StandFor, is_one}
use Rattle.ct_base.specs.Inode.{Partition, number_of}
use Rattle.ct_base.specs.Settled.{IsShut}
use Rattle.ct_base.specs.View.{view}
use Rattle.ct_base.specs.Walk.{word, byte, page_at, page_count, AreTables}
use Rattle.ct_base.specs.declared.layout.TheConstants.{ADDRESS_END, FIRST_PAGE, PAGE_BYTES, PAGE_WORDS, ROOT_WORD}
use Rattle.ct_frames.specs.Agrees.{Agrees}
use Rattle.ct_frames.specs.Free.{FreePages}
use Rattle.ct_image.proofs.Beside.{Beside}

-- the page count stands in word 2, and all other words are 0
pub record IsEmpty (img : List ℕ) : Type 0 where
  pub some : FIRST_PAGE ≤ page_count img
  pub there : PAGE_WORDS * page_count img ≤ length img
  pub zeros : (w : ℕ) → w ≢ 2 → word img w ≡ 0

-- a record may begin, and the headers stand for partitions
pub record IsReady (img : List ℕ) (frames : FreePages) : Type 0 where
  pub tables : AreTables img
  pub agrees : Agrees img frames
  pub shut : IsShut img
  pub stand : (ps : List Partition) × StandFor (view img) ps

-- the headers stand for partitions, this one among them
abbrev pub HasLive : List ℕ → Partition → Type 0
HasLive img p = (ps : List Partition) × StandFor (view img) ps × (is_one ps p.level (number_of p) ≡ true)

-- pages were made, and these addresses have theirs
pub record HasPages (old new : List ℕ) (frames : FreePages) (Made : ℕ → Type 0) : Type 0 where
  pub tables : AreTables new
  pub agrees : Agrees new frames
  pub bytes : (v : ℕ) → v < ADDRESS_END → byte new v ≡ byte old v
  pub low : (w : ℕ) → w < ROOT_WORD → word new w ≡ word old w
  pub kept : (n : ℕ) → page_at old 4 n ≢ 0 → page_at new 4 n ≢ 0
  pub there : (a : ℕ) → Made a → page_at new 4 (a / PAGE_BYTES) ≢ 0

-- the words are those of a draft, once its pairs were applied and its gate closed
pub record IsApplied (changed now : List ℕ) : Type 0 where
  pub beside : Beside changed now
  pub shut : IsShut now
