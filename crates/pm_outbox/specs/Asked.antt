-- What the steps of a device ask of its medium.
use Rattle.std.specs.Prelude.{ℕ, ◌/◌, Bool, true, false, List, [], ◌∷◌, ◌++◌, ◌==◌, if◌then◌else◌, slice_index}
use Rattle.ct_pm.specs.Images.{words_after}
use Rattle.ct_pm.specs.declared.step.Step.{Step}
use Rattle.ct_pm.specs.declared.step.Step.TheVariants.{Store, Flush, Fence}
use Rattle.pm_outbox.specs.Lines.{line_at}
use Rattle.pm_outbox.specs.declared.ask.Ask.{Ask}
use Rattle.pm_outbox.specs.declared.ask.Ask.TheVariants.{Write, Sync}

-- a store to the line changes a word of it
abbrev pub changes : List ℕ → ℕ → ℕ → ℕ → Bool
changes words word value line = if word / 8 == line then (if slice_index words word == value then false else true) else false

-- a word of the line has changed since the line was flushed last
abbrev pub is_marked : List ℕ → List Step → ℕ → Bool
is_marked start [] line = false
is_marked start (Store word value ∷ steps) line = if changes (words_after start steps) word value line then true else is_marked start steps line
is_marked start (Flush flushed ∷ steps) line = if flushed == line then false else is_marked start steps line
is_marked start (Fence ∷ steps) line = is_marked start steps line

-- The oldest first; the steps are the newest first. A line that reads as it was asked last is not asked again.
abbrev pub asked : List ℕ → List Step → List Ask
asked start [] = []
asked start (Store word value ∷ steps) = asked start steps
asked start (Flush line ∷ steps) = if is_marked start steps line then asked start steps ++ Write line (line_at (words_after start steps) line) ∷ [] else asked start steps
asked start (Fence ∷ steps) = asked start steps ++ Sync ∷ []
