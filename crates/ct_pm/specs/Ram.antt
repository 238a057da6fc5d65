-- What a device over plain memory holds.
use Rattle.std.specs.Prelude.{ℕ, List}
use Rattle.ct_pm.specs.declared.ram.RamPm.{RamPm}

-- the words as they read
abbrev pub words_of : RamPm → List ℕ
words_of device = device.words.items

abbrev pub pages_of : RamPm → ℕ
pages_of device = device.pages
