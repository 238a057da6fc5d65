-- What a device over a file holds.
use Rattle.std.specs.Prelude.{◌≡◌, ℕ, List, Bool, true, false, replicate, slice_index}
use Rattle.pm_file.specs.declared.device.FilePm.{FilePm}
use Rattle.pm_file.specs.declared.kept.KeptLine.{KeptLine}

-- the words as they read
abbrev pub words_of : {F : Type 0} → FilePm F → List ℕ
words_of device = device.words.items

abbrev pub pages_of : {F : Type 0} → FilePm F → ℕ
pages_of device = device.pages

-- how often a fence failed
abbrev pub faults_of : {F : Type 0} → FilePm F → ℕ
faults_of device = device.faults

-- the lines that were stored to since they were last written, a mask for each page
abbrev pub stored_of : {F : Type 0} → FilePm F → List ℕ
stored_of device = device.marks.stored.items

-- the lines that the next fence writes
abbrev pub marked_of : {F : Type 0} → FilePm F → List ℕ
marked_of device = device.marks.marked.items

-- lines as the file has them, where that is known: with the words before their first store since they were last written
abbrev pub kept_of : {F : Type 0} → FilePm F → List KeptLine
kept_of device = device.kept.lines.items

-- the file is synced by the next fence even where no line is marked
abbrev pub is_unsynced : {F : Type 0} → FilePm F → Bool
is_unsynced device = device.unsynced

-- nothing was stored since the file was read, and nobody synced it
pub record IsFresh {F : Type 0} (device : FilePm F) : Type 0 where
  pub stored : stored_of device ≡ replicate (pages_of device) 0
  pub marked : marked_of device ≡ replicate (pages_of device) 0
  pub unsynced : is_unsynced device ≡ true
  pub faults : faults_of device ≡ 0

-- no line is marked and the file is synced, so a fence has nothing to do
pub record IsQuiet {F : Type 0} (device : FilePm F) : Type 0 where
  pub marked : (page : ℕ) → slice_index (marked_of device) page ≡ 0
  pub synced : is_unsynced device ≡ false
