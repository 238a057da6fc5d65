-- What is too long for a command: the script of one that takes one, and a path of a tree that is dumped.
use Rattle.std.specs.Prelude.{◌<◌, ◌≤◌, ℕ, List, Option, Some, None, IfSome, IsSomeAnd, length}
use Rattle.ct_tree.specs.Lands.{Lands}
use Rattle.ct_tree.specs.Ordered.{IsTree}
use Rattle.ct_tree.specs.Tree.{Tree}
use Rattle.ct_run.specs.Dumps.{HasLongPath, HasShortPaths}
use Rattle.ct_run.specs.Ways.{Work, calls, dump, nothing, script}
use Rattle.ct_run.specs.Words.{work_of}
use Rattle.ct_script.specs.declared.feed.TheConstants.{SCRIPT_BYTES}
use Rattle.ct_run.specs.declared.command.Command.{Command}

-- what was too long where a run ends so, by what it does, the input and the words of the device
abbrev pub WasTooLongFor : Work → Option (List ℕ) → List ℕ → Type 0
WasTooLongFor script input words = IfSome input (λ text. SCRIPT_BYTES < length text)
WasTooLongFor nothing input words = ⊥
WasTooLongFor (calls number count) input words = ⊥
WasTooLongFor dump input words = (t : Tree) → IsTree t → Lands words t → HasLongPath t

abbrev pub WasTooLong : Option Command → Option (List ℕ) → List ℕ → Type 0
WasTooLong None input words = ⊥
WasTooLong (Some command) input words = WasTooLongFor (work_of command) input words

-- nothing is too long
abbrev pub IsShortEnoughFor : Work → Option (List ℕ) → List ℕ → Type 0
IsShortEnoughFor script input words = IsSomeAnd input (λ text. length text ≤ SCRIPT_BYTES)
IsShortEnoughFor nothing input words = Unit {0}
IsShortEnoughFor (calls number count) input words = Unit {0}
IsShortEnoughFor dump input words = (t : Tree) → IsTree t → Lands words t → HasShortPaths t

abbrev pub IsShortEnough : Option Command → Option (List ℕ) → List ℕ → Type 0
IsShortEnough None input words = Unit {0}
IsShortEnough (Some command) input words = IsShortEnoughFor (work_of command) input words
