-- What C is asked to do to the medium.
use Rattle.std.specs.Prelude.{◌≡◌, ◌⊎◌, ◌+◌, ◌<◌, ◌≤◌, [], ℕ, List, Option, Some, None, IsNone, IsSomeAnd, length, slice_get, true, false, replicate}
use Rattle.std.specs.Option.{option_map}
use Rattle.ct_call.specs.Mounted.{Volume}
use Rattle.ct_fs.specs.Mounts.{mounts}
use Rattle.ct_fs.specs.declared.system.Fs.{Fs}
use Rattle.pm_outbox.specs.Medium.{AllowsFronts}
use Rattle.pm_outbox.specs.Outbox.{history, words_of}
use Rattle.pm_outbox.specs.declared.ask.Ask.{Ask}
use Rattle.pm_outbox.specs.declared.ask.Ask.TheVariants.{Write, Sync}
use Rattle.pm_outbox.specs.declared.outbox.OutboxPm.{OutboxPm}
use Rattle.msa.specs.Mounts.{asks_of, HoldsWords}
use Rattle.msa.specs.Seats.{mount_in}
use Rattle.msa.specs.declared.codes.TheConstants.{CLOSED}
use Rattle.msa.specs.declared.shipping.Entry.{Entry}
use Rattle.msa.specs.declared.seat.Seat.{Seat}

-- what is asked, as C reads it
abbrev pub entry_of : Ask → Entry
entry_of (Write line words) = record { is_sync = false; line = line; words = words }
entry_of Sync = record { is_sync = true; line = 0; words = replicate 8 0 }

-- the front of the buffer has so much of what was asked from a place on, and the rest of it stays
pub record Shown (asks : List Ask) (place : ℕ) (old new : List Entry) (count : ℕ) : Type 0 where
  pub size : length new ≡ length old
  pub shown : (k : ℕ) → k < count → slice_get new k ≡ option_map entry_of (slice_get asks (place + k))
  pub rest : (k : ℕ) → count ≤ k → slice_get new k ≡ slice_get old k

-- and that is as much as there is and fits
pub record Shows (asks : List Ask) (place : ℕ) (old new : List Entry) (count : ℕ) : Type 0 where
  pub size : length new ≡ length old
  pub fits : count ≤ length old
  pub within : place + count ≤ length asks
  pub shown : (k : ℕ) → k < count → slice_get new k ≡ option_map entry_of (slice_get asks (place + k))
  pub all : count < length old → place + count ≡ length asks
  pub rest : (k : ℕ) → count ≤ k → slice_get new k ≡ slice_get old k

-- so much more was taken, and nothing else happened
pub record Goes (was now : Seat) (count : ℕ) : Type 0 where
  pub fs : now.fs ≡ was.fs
  pub taken : now.taken ≡ was.taken + count
  pub space : now.space ≡ was.space

-- the history begins again at the words as they read; they stay, and so do the free pages
pub record Restarts {bound : _} (was now : Fs OutboxPm bound) : Type 0 where
  pub made : (before : Volume OutboxPm) → mounts was ≡ Some before → IsSomeAnd (mounts now) (λ after. (words_of after.dev ≡ words_of before.dev)
      × (history after.dev ≡ record { start = words_of before.dev; steps = [] }) × (after.frames ≡ before.frames))

-- all that was asked was taken, and the history begins again, of which C has taken nothing
pub record Begins (was now : Seat) : Type 0 where
  pub all : (before : Volume OutboxPm) → mount_in was ≡ Some before → was.taken ≡ length (asks_of before.dev)
  pub taken : now.taken ≡ 0
  pub space : now.space ≡ was.space
  pub fs : IsSomeAnd was.fs (λ before. IsSomeAnd now.fs (λ after. Restarts before after))

-- What C may promise of its medium: whatever it may hold that has seen a front of what was asked, a crash may have left at some
-- moment; and once it has seen all, it holds the words as they read.
pub record Promises (dev : OutboxPm) : Type 0 where
  pub fronts : AllowsFronts (history dev)
  pub all : HoldsWords dev

-- what a take does to a seat and to C's buffer of entries; after a fault nothing is asked
pub record Gives (was now : Seat) (old new : List Entry) (count : ℕ) : Type 0 where
  pub dead : IsNone (mount_in was) → (now.fs ≡ was.fs) × (new ≡ old) × (count ≡ 0)
  pub shows : (before : Volume OutboxPm) → mount_in was ≡ Some before → Shows (asks_of before.dev) was.taken old new count
  pub medium : (before : Volume OutboxPm) → mount_in was ≡ Some before → Promises before.dev
  pub goes : Goes was now count ⊎ ((count ≡ 0) × Begins was now)

abbrev pub Takes : Option Seat → Option Seat → List Entry → List Entry → ℕ → ℕ → ℕ → Type 0
Takes None now old new was_count count code = (now ≡ None) × (code ≡ CLOSED) × (new ≡ old) × (count ≡ was_count)
Takes (Some was) None old new was_count count code = ⊥
Takes (Some was) (Some now) old new was_count count code = (code ≡ 0) × Gives was now old new count
