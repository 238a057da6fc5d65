-- What settling may store.
use Rattle.std.specs.Prelude.{◌≡◌, ◌⊎◌, ℕ, List}
use Rattle.ct_base.specs.Settled.{open_pairs, Gives}
use Rattle.ct_record.specs.Record.{InRecord, IsStaging}

-- off pages 1 to 32 a word gets what one of the open pairs has for it, or a staging slot gets 0
abbrev pub Settling : List ℕ → ℕ → ℕ → Type 0
Settling words word value = InRecord word ⊎ (Gives (open_pairs words) word value ⊎ (IsStaging word × (value ≡ 0)))
