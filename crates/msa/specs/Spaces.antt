-- What C is told of space.
use Rattle.std.specs.Prelude.{◌≡◌, ℕ, Option, Some, None, IsNone, length}
use Rattle.ct_call.specs.Mounted.{Volume}
use Rattle.ct_fs.specs.Mounts.{mounts}
use Rattle.ct_fs.specs.declared.system.Fs.{Fs}
use Rattle.pm_outbox.specs.Outbox.{pages_of}
use Rattle.pm_outbox.specs.declared.outbox.OutboxPm.{OutboxPm}
use Rattle.msa.specs.Seats.{mount_in}
use Rattle.msa.specs.declared.codes.TheConstants.{CLOSED, DEAD}
use Rattle.msa.specs.declared.seat.Seat.{Seat}
use Rattle.msa.specs.declared.seat.Space.{Space}
use Rattle.msa.specs.declared.space.Numbers.{Numbers}

-- the pages of a mount were counted, and it stays
pub record Counted {bound : _} (was now : Fs OutboxPm bound) (free all : ℕ) : Type 0 where
  pub stays : mounts now ≡ mounts was
  pub free_is : (before : Volume OutboxPm) → mounts was ≡ Some before → free ≡ length before.frames.free
  pub all_is : (before : Volume OutboxPm) → mounts was ≡ Some before → all ≡ pages_of before.dev

-- the numbers of the last refusal for space, how many pages are free, and how many there are
abbrev pub numbers_of : Space → Volume OutboxPm → Numbers
numbers_of space mount = record { level = space.level; were_free = space.free; needed = space.need; free = length mount.frames.free; pages = pages_of mount.dev }

-- the numbers of a seat, and it stays
pub record CountsIn (was now : Seat) (numbers : Numbers) : Type 0 where
  pub taken : now.taken ≡ was.taken
  pub space : now.space ≡ was.space
  pub stays : mount_in now ≡ mount_in was
  pub numbers_are : (before : Volume OutboxPm) → mount_in was ≡ Some before → numbers ≡ numbers_of was.space before

-- The seat stays. A call met a fault and nothing is told, or the numbers are.
pub record CountsOf (old new : Numbers) (was now : Seat) (code : ℕ) : Type 0 where
  pub dead : IsNone (mount_in was) → (now ≡ was) × (code ≡ DEAD) × (new ≡ old)
  pub told : (before : Volume OutboxPm) → mount_in was ≡ Some before → (code ≡ 0) × CountsIn was now new

abbrev pub Counts : Numbers → Numbers → Option Seat → Option Seat → ℕ → Type 0
Counts old new None now code = (now ≡ None) × (code ≡ CLOSED) × (new ≡ old)
Counts old new (Some was) None code = ⊥
Counts old new (Some was) (Some now) code = CountsOf old new was now code
