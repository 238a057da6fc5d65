-- What it does to a handle that a file is mounted.
use Rattle.std.specs.Prelude.{◌≡◌, ◌≢◌, ◌⊎◌, ◌*◌, ◌%◌, ◌<◌, ℕ, List, Option, Some, None, [], replicate, drop, length, slice_index}
use Rattle.byteorder.specs.Endian.{little_number}
use Rattle.ct_base.specs.View.{inode_count}
use Rattle.ct_base.specs.declared.layout.TheConstants.{PAGE_BYTES, PAGE_WORDS, MOST_PAGES, LEAST_INODES, MOST_INODES}
use Rattle.ct_call.specs.Calls.{Keeps}
use Rattle.ct_call.specs.Mounted.{Volume}
use Rattle.ct_call.specs.declared.mount.Why.{Why}
use Rattle.ct_format.specs.Formatting.{IsFormatImage}
use Rattle.ct_pm.specs.Device.{LeavesOnly}
use Rattle.ct_mount.specs.Mounting.{Judges, Recovers}
use Rattle.ct_tree.specs.Lands.{Lands}
use Rattle.ct_tree.specs.Ordered.{IsTree}
use Rattle.ct_tree.specs.Tree.{Tree, Dir, none}
use Rattle.pm_outbox.specs.Outbox.{history, words_of}
use Rattle.pm_outbox.specs.declared.outbox.OutboxPm.{OutboxPm}
use Rattle.msa.specs.Codes.{why_code}
use Rattle.msa.specs.Mounts.{state_of}
use Rattle.msa.specs.Seats.{mount_in}
use Rattle.msa.specs.declared.codes.TheConstants.{BUSY, MISUSE, NO_MEMORY}
use Rattle.msa.specs.declared.seat.Seat.{Seat}
use Rattle.msa.specs.declared.seat.Space.{Space}

-- the numbers of a refusal for space before there was one
abbrev pub no_space : Space
no_space = record { level = 0; free = 0; need = 0 }

-- the words were mounted: no mount rule fails on them, the seat has the tree on which they land, C has taken nothing yet, and
-- whatever a crash leaves of what is asked since lands on that tree too
pub record Held (words : List ℕ) (seat : Seat) : Type 0 where
  pub judged : Judges words None
  pub keeps : (t : Tree) → IsTree t → Lands words t → Keeps (inode_count words) (state_of seat.fs) t
  pub recovers : (t : Tree) → Lands words t → (now : Volume OutboxPm) → mount_in seat ≡ Some now
      → Recovers t words (Some (record { start = words; steps = [] })) (Some (history now.dev)) (words_of now.dev)
  pub taken : seat.taken ≡ 0
  pub space : seat.space ≡ no_space

-- The words were mounted; or they were not, and the code is why: the first mount rule that fails on them, a fault, or want of
-- memory.
abbrev pub Mounts : List ℕ → Option Seat → ℕ → Type 0
Mounts words (Some seat) code = (code ≡ 0) × Held words seat
Mounts words None code = ((why : Why) × ((code ≡ why_code why) × Judges words (Some why))) ⊎ (code ≡ NO_MEMORY)

-- the words are those of the bytes: eight bytes a word, the lowest first
pub record IsImage (bytes words : List ℕ) : Type 0 where
  pub size : length bytes ≡ 8 * length words
  pub whole : length bytes % PAGE_BYTES ≡ 0
  pub each : (k : ℕ) → k < length words → slice_index words k ≡ little_number 8 (drop (8 * k) bytes)

-- so many bytes are no image: they are not whole pages, or too many
abbrev pub IsMissized : ℕ → Type 0
IsMissized len = (len % PAGE_BYTES ≢ 0) ⊎ (PAGE_BYTES * MOST_PAGES < len)

-- A handle with something in it stays. Else the words of the bytes are mounted, or they are no whole pages, or memory ran out.
abbrev pub Opens : List ℕ → Option Seat → Option Seat → ℕ → Type 0
Opens bytes (Some was) now code = (now ≡ Some was) × (code ≡ BUSY)
Opens bytes None now code =
    ((words : List ℕ) × (IsImage bytes words × Mounts words now code)) ⊎ ((now ≡ None) × (((code ≡ MISUSE) × IsMissized (length bytes)) ⊎ (code ≡ NO_MEMORY)))

-- A file system of an empty tree was made, with so many inodes, and C has taken nothing yet. A crash at any moment leaves what the
-- words held at the start, what is no image, or what lands on the empty tree.
pub record New (start : List ℕ) (inodes : ℕ) (seat : Seat) : Type 0 where
  pub keeps : Keeps inodes (state_of seat.fs) (Dir none)
  pub moments : (now : Volume OutboxPm) → mount_in seat ≡ Some now → LeavesOnly (Some (record { start = start; steps = [] })) (Some (history now.dev)) (IsFormatImage start)
  pub taken : seat.taken ≡ 0
  pub space : seat.space ≡ no_space

-- it was made, or there is none and the code is why
abbrev pub Makes : List ℕ → ℕ → Option Seat → ℕ → Type 0
Makes start inodes (Some seat) code = (code ≡ 0) × New start inodes seat
Makes start inodes None code = ((why : Why) × (code ≡ why_code why)) ⊎ (code ≡ NO_MEMORY)

-- a medium of so many pages of zeros
abbrev pub zeros : ℕ → List ℕ
zeros pages = replicate (PAGE_WORDS * pages) 0

abbrev pub Formats : ℕ → ℕ → Option Seat → Option Seat → ℕ → Type 0
Formats pages inodes (Some was) now code = (now ≡ Some was) × (code ≡ BUSY)
Formats pages inodes None now code = Makes (zeros pages) inodes now code ⊎ ((now ≡ None) × (((code ≡ MISUSE) × ((MOST_PAGES < pages) ⊎ ((inodes < LEAST_INODES) ⊎ (MOST_INODES < inodes)))) ⊎ (code ≡ NO_MEMORY)))

-- what was in the handle is gone
abbrev pub Closes : Option Seat → Option Seat → ℕ → ℕ → Type 0
Closes None now code closed = (now ≡ None) × (code ≡ closed)
Closes (Some was) now code closed = (now ≡ None) × (code ≡ 0)
