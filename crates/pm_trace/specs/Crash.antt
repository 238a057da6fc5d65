-- The image that a list of choices gives.
use Rattle.std.specs.Prelude.{◌≡◌, ◌<◌, ◌≤◌, ◌/◌, ℕ, List, length, max, min, reverse, slice_index, slice_index_or}
use Rattle.ct_pm.specs.declared.step.Step.{Step}
use Rattle.ct_pm.specs.Images.{History, at, reads, first, floor, last, flushes, words_after, SameLine}

-- the step after which a line is shown: its choice, raised to its floor and lowered to the clock; past the choices the clock
abbrev pub shown : List ℕ → History → ℕ → ℕ
shown choice h line = max (floor line h.steps) (min (slice_index_or choice line (length h.steps)) (length h.steps))

-- each choice is the start or a step that was made
abbrev pub AreSteps : List ℕ → History → Type 0
AreSteps choice h = (line : ℕ) → slice_index choice line ≤ length h.steps

-- each line is as it was after the step that is shown
pub record IsChosen (choice : List ℕ) (h : History) (image : List ℕ) : Type 0 where
  pub size : length image ≡ length h.start
  pub lines : (line : ℕ) → SameLine line image (reads (at (shown choice h line) h))

-- for each line the number of its last flush among these steps, the oldest first
pub record AreLastFlushes (steps : List Step) (lines : ℕ) (flushes_of : List ℕ) : Type 0 where
  pub size : length flushes_of ≡ lines
  pub each : (line : ℕ) → line < lines → slice_index flushes_of line ≡ last (flushes line) (reverse steps)

-- for each line its choice, raised to its floor and lowered to the clock
pub record AreShown (choice : List ℕ) (clock : ℕ) (floors steps : List ℕ) : Type 0 where
  pub size : length steps ≡ length floors
  pub each : (line : ℕ) → line < length floors → slice_index steps line ≡ max (slice_index floors line) (min (slice_index_or choice line clock) clock)

-- each word is as it was after as many steps as its line says
pub record AreReplayed (steps : List Step) (until old new : List ℕ) : Type 0 where
  pub size : length new ≡ length old
  pub each : (word : ℕ) → word < length old → slice_index new word ≡ slice_index (words_after old (first (slice_index until (word / 8)) (reverse steps))) word
