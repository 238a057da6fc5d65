-- What callers see of a record in each of its states.
use Rattle.std.specs.Prelude.{◌≡◌, ◌<◌, ◌≤◌, ℕ, Option, List, Result, Ok, Err}
use Rattle.ct_base.specs.declared.layout.TheConstants.{LONG_PAIRS, MOST_SHORT_PAIRS}
use Rattle.ct_base.specs.Settled.{Pair, IsShut, pairs_at, with_pairs}
use Rattle.ct_pm.specs.Images.{History}
use Rattle.ct_pm.specs.Device.{SameOff, MakesOnly, LeavesOnly}
use Rattle.ct_record.specs.declared.idle.Idle.{Idle}
use Rattle.ct_record.specs.declared.idle.Broken.{Broken}
use Rattle.ct_record.specs.declared.draft.Draft.{Draft}
use Rattle.ct_record.specs.declared.armed.Armed.{Armed}
use Rattle.ct_record.specs.declared.applied.Applied.{Applied}
use Rattle.ct_record.specs.Record.{InRecord, SettlesTo, StaysInLine, StaysInRecord, place_of}

-- the device that each state owns
abbrev pub idle_dev : {D : Type 0} {bound : _} → Idle D bound → D
idle_dev idle = idle.dev

abbrev pub draft_dev : {D : Type 0} {bound : _} → Draft D bound → D
draft_dev draft = draft.dev

abbrev pub armed_dev : {D : Type 0} {bound : _} → Armed D bound → D
armed_dev armed = armed.dev

abbrev pub applied_dev : {D : Type 0} {bound : _} → Applied D bound → D
applied_dev applied = applied.dev

-- the device behind either answer
abbrev pub after_arm : {D : Type 0} {bound : _} → Result (Armed D bound) (Broken D) → D
after_arm (Ok armed) = armed.dev
after_arm (Err broken) = broken.dev

abbrev pub after_apply : {D : Type 0} {bound : _} → Result (Applied D bound) (Broken D) → D
after_apply (Ok applied) = applied.dev
after_apply (Err broken) = broken.dev

abbrev pub after_finish : {D : Type 0} {bound : _} → Result (Idle D bound) (Broken D) → D
after_finish (Ok idle) = idle.dev
after_finish (Err broken) = broken.dev

-- the device behind either answer of a whole record
abbrev pub device_behind : {D : Type 0} → Result D (Broken D) → D
device_behind (Ok dev) = dev
device_behind (Err broken) = broken.dev

-- how many pairs a draft has
abbrev pub count_of : {D : Type 0} {bound : _} → Draft D bound → ℕ
count_of draft = draft.count

-- the words as they read under the draft
abbrev pub words_under : {D : Type 0} {bound : _} → Draft D bound → List ℕ
words_under {bound = bound} draft = bound.words draft.dev

abbrev pub told_under : {D : Type 0} {bound : _} → Draft D bound → Option History
told_under {bound = bound} draft = bound.told draft.dev

abbrev pub faults_under : {D : Type 0} {bound : _} → Draft D bound → ℕ
faults_under {bound = bound} draft = bound.faults draft.dev

-- the pairs, the newest first
abbrev pub pairs_of : {D : Type 0} {bound : _} → Draft D bound → List Pair
pairs_of {bound = bound} draft = pairs_at (place_of draft.count) draft.count (bound.words draft.dev)

-- no fourth pair was begun: what was stored lies in the line of the short gate
abbrev pub IsShort : {D : Type 0} {bound : _} → Draft D bound → Type 0
IsShort draft = draft.end ≡ LONG_PAIRS

-- the words under a draft, once its pairs are applied
abbrev pub drafted : {D : Type 0} {bound : _} → Draft D bound → List ℕ
drafted draft = with_pairs (pairs_of draft) (words_under draft)

-- a draft goes on: what holds whether its calls answered Ok or not
pub record Drafts {D : Type 0} {bound : _} (old new : Draft D bound) : Type 0 where
  -- off pages 1 to 32 no word changes
  pub same : SameOff InRecord (words_under new) (words_under old)
  pub made : MakesOnly StaysInRecord (told_under old) (told_under new)
  -- a crash at any moment leaves what settles as it would without the pairs, and so do the words as they read
  pub moments : LeavesOnly (told_under old) (told_under new) (SettlesTo (words_under old))
  pub reads : SettlesTo (words_under old) (words_under new)
  -- and both gates are closed in it
  pub shut : LeavesOnly (told_under old) (told_under new) IsShut
  -- a draft in which no fourth pair was begun began as one, and since then only words of its line were stored
  pub short : IsShort new → IsShort old × MakesOnly StaysInLine (told_under old) (told_under new)
  -- no pair is dropped, and while there are fewer than three no fourth was begun
  pub more : count_of old ≤ count_of new
  pub few : IsShort old → count_of new < MOST_SHORT_PAIRS → IsShort new
