-- What a device tells, and when it fails.
use Rattle.std.specs.Prelude.{◌≡◌, ◌⊎◌, ◌+◌, ◌-◌, ◌^◌, min, ℕ, List, length, reverse, Contains}
use Rattle.ct_pm.specs.Images.{History}
use Rattle.pm_trace.specs.declared.trace.TracePm.{TracePm}

abbrev pub history : TracePm → History
history device = record { start = device.start.items; steps = reverse device.steps.items }

abbrev pub words_of : TracePm → List ℕ
words_of device = device.words.items

-- the next call fails: its number is listed, or there is no room for its step
abbrev pub IsToFail : TracePm → Type 0
IsToFail device = Contains device.fail_at.items device.calls ⊎ (length device.steps.items ≡ device.room)

-- the numbers of the calls that fail
abbrev pub listed : TracePm → List ℕ
listed device = device.fail_at.items

abbrev pub room_of : TracePm → ℕ
room_of device = device.room

-- how many calls were made
abbrev pub calls_of : TracePm → ℕ
calls_of device = device.calls

-- one call more was counted, of a device that is otherwise set up alike
pub record CountsCall (old new : TracePm) : Type 0 where
  pub calls : calls_of new ≡ min (calls_of old + 1) (2 ^ 64 - 1)
  pub listed : listed new ≡ listed old
  pub room : room_of new ≡ room_of old

-- how often it failed
abbrev pub faults_of : TracePm → ℕ
faults_of device = device.faults
