-- What a dump does to what was written, and when it may fail.
use Rattle.std.specs.Prelude.{◌≡◌, ℕ, ◌≤◌, true, false, List, take, Ok, Err}
use Rattle.std.specs.declared.option.Option.{Option}
use Rattle.std.specs.declared.result.Result.{Result}
use Rattle.std.specs.Io.KnownBytes.{Appends}
use Rattle.ct_base.specs.Causes.{Rose}
use Rattle.ct_dump.specs.Dumped.{Placed, text_of, are_short, before_long}
use Rattle.ct_dump.specs.declared.fault.DumpFault.{DumpFault}
use Rattle.ct_dump.specs.declared.fault.DumpFault.TheVariants.{Write, TooLong}

-- the lines of all nodes where every path is short enough, else of those before the first that is too long; a prefix of
-- them at a fault of the sink
abbrev pub DumpAppends : {A : Type 0} → Option (List ℕ) → Option (List ℕ) → Result A DumpFault → List Placed → Type 0
DumpAppends old new (Ok x) nodes = (are_short nodes ≡ true) × Appends old new (text_of nodes)
DumpAppends old new (Err TooLong) nodes = (are_short nodes ≡ false) × Appends old new (text_of (before_long nodes))
DumpAppends old new (Err Write) nodes = (k : ℕ) × Appends old new (take k (text_of (before_long nodes)))

-- the count has not fallen, and it rose where the sink failed
abbrev pub DumpHasCause : {A : Type 0} → ℕ → ℕ → Result A DumpFault → Type 0
DumpHasCause before now (Ok x) = before ≤ now
DumpHasCause before now (Err TooLong) = before ≤ now
DumpHasCause before now (Err Write) = (before ≤ now) × Rose before now
