-- What C's handle holds.
use Rattle.std.specs.Prelude.{◌≡◌, ◌≤◌, ℕ, List, Option, Some, None, length, reverse}
use Rattle.ct_call.specs.Mounted.{Volume}
use Rattle.ct_call.specs.declared.mount.State.{State}
use Rattle.ct_fs.specs.Mounts.{mounts}
use Rattle.ct_fs.specs.declared.system.Fs.{Fs}
use Rattle.pm_outbox.specs.Asked.{asked}
use Rattle.pm_outbox.specs.Medium.{MayHold}
use Rattle.pm_outbox.specs.Outbox.{history, words_of}
use Rattle.pm_outbox.specs.declared.ask.Ask.{Ask}
use Rattle.pm_outbox.specs.declared.outbox.OutboxPm.{OutboxPm}

-- the state of a file system that is there
abbrev pub state_of : {bound : _} → Option (Fs OutboxPm bound) → Option (State OutboxPm bound)
state_of None = None
state_of (Some fs) = fs.state

-- what was asked of the medium since the history began, the oldest first
abbrev pub asks_of : OutboxPm → List Ask
asks_of dev = asked (history dev).start (history dev).steps

-- a medium that has seen all that was asked holds the words as they read
abbrev pub HoldsWords : OutboxPm → Type 0
HoldsWords dev = (image : List ℕ) → MayHold (history dev).start (reverse (asks_of dev)) image → image ≡ words_of dev

-- the device and its free pages, and nothing where a call met a fault
abbrev pub mounted_in : {bound : _} → Option (Fs OutboxPm bound) → Option (Volume OutboxPm)
mounted_in None = None
mounted_in (Some fs) = mounts fs

-- no more was taken than was asked
abbrev pub HasPlace : {bound : _} → Option (Fs OutboxPm bound) → ℕ → Type 0
HasPlace fs taken = (was : Volume OutboxPm) → mounted_in fs ≡ Some was → taken ≤ length (asks_of was.dev)
