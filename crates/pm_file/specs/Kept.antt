-- Lines as the file has them.
use Rattle.std.specs.Prelude.{◌≡◌, ℕ, ◌<◌, ◌≤◌, ◌⊎◌, List, [], ◌∷◌, ◌++◌, length, Contains}
use Rattle.pm_file.specs.Lines.{line_words}
use Rattle.pm_file.specs.declared.kept.KeptLine.{KeptLine}

-- a line is kept with its words, where fewer than 1,024 are
abbrev pub Keeps : List KeptLine → List KeptLine → ℕ → List ℕ → Type 0
Keeps old new line words = ((length old < 1024) × (new ≡ old ++ (record { line = line; words = words }) ∷ [])) ⊎ ((1024 ≤ length old) × (new ≡ old))

-- the line was kept with the words that it has now
abbrev pub IsAsKept : List KeptLine → List ℕ → ℕ → Type 0
IsAsKept kept words line = Contains kept (record { line = line; words = line_words words line })
