-- What a medium may hold that sees what is asked of it.
use Rattle.std.specs.Prelude.{◌≡◌, ◌⊎◌, ℕ, List, [], ◌∷◌, length, reverse, take, if◌then◌else◌, ◌==◌}
use Rattle.ct_pm.specs.Images.{History, words_after, WasAllowed}
use Rattle.ct_pm.specs.declared.step.Step.{Step}
use Rattle.ct_pm.specs.declared.step.Step.TheVariants.{Store, Flush, Fence}
use Rattle.pm_outbox.specs.Asked.{asked, is_marked}
use Rattle.pm_outbox.specs.Lines.{line_at}
use Rattle.pm_outbox.specs.declared.ask.Ask.{Ask}
use Rattle.pm_outbox.specs.declared.ask.Ask.TheVariants.{Write, Sync}

-- what the steps ask, both the newest first
abbrev pub newest : List ℕ → List Step → List Ask
newest start [] = []
newest start (Store word value ∷ steps) = newest start steps
newest start (Flush line ∷ steps) = if is_marked start steps line then Write line (line_at (words_after start steps) line) ∷ newest start steps else newest start steps
newest start (Fence ∷ steps) = Sync ∷ newest start steps

-- a line as it was written last
abbrev pub written : List ℕ → List Ask → ℕ → List ℕ
written start [] line = line_at start line
written start (Write at bytes ∷ asks) line = if at == line then bytes else written start asks line
written start (Sync ∷ asks) line = written start asks line

-- The line may read so: as before a write or as written by it, and after a sync as it was written last.
abbrev pub MayRead : List ℕ → List Ask → ℕ → List ℕ → Type 0
MayRead start [] line bytes = bytes ≡ line_at start line
MayRead start (Write at new ∷ asks) line bytes = ((at ≡ line) × (bytes ≡ new)) ⊎ MayRead start asks line bytes
MayRead start (Sync ∷ asks) line bytes = bytes ≡ written start asks line

-- the medium held the start words, has seen these asks, the newest first, and may hold this image
pub record MayHold (start : List ℕ) (asks : List Ask) (image : List ℕ) : Type 0 where
  pub size : length image ≡ length start
  pub lines : (line : ℕ) → MayRead start asks line (line_at image line)

-- whatever a medium may hold that held the start words, and has seen a front of what was asked, a crash may have left at some moment
abbrev pub AllowsFronts : History → Type 0
AllowsFronts h = (count : ℕ) (image : List ℕ) → MayHold h.start (reverse (take count (asked h.start h.steps))) image → WasAllowed 0 h image
