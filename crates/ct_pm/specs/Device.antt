-- What the calls of a device say.
use Rattle.std.specs.Prelude.{◌≡◌, ◌⊎◌, ℕ, zero, suc, ◌+◌, ◌-◌, ◌/◌, ◌<◌, ◌≤◌, List, [], ◌∷◌, ◌++◌, length, Option, Result, OnOk, OnErr, IfSome, slice_index}
use Rattle.std.specs.Option.{option_map}
use Rattle.ct_pm.specs.declared.step.Step.{Step}
use Rattle.ct_pm.specs.declared.step.Step.TheVariants.{Store, Flush, Fence}
use Rattle.ct_pm.specs.Images.{History, reads, words_after, IsAllowed, IsSettled, IsWrittenBack, WasAllowed}

-- the history with more steps, the newest first
abbrev pub with_steps : List Step → Option History → Option History
with_steps added told = option_map (λ h. record { start = h.start; steps = added ++ h.steps }) told

-- at Ok the step was made, and at an error none
pub record AddsStep {T E : Type 0} (result : Result T E) (step : Step) (old new : Option History) : Type 0 where
  pub ok : OnOk result (new ≡ with_steps (step ∷ []) old)
  pub err : OnErr result (new ≡ old)

-- each image that is allowed now has P
abbrev pub EachNow : Option History → (List ℕ → Type 0) → Type 0
EachNow told P = IfSome told (λ h. (image : List ℕ) → IsAllowed h image → P image)

-- where the images are told, each one that was allowed at a moment from old to new has P
abbrev pub EachImage : Option History → Option History → (List ℕ → Type 0) → Type 0
EachImage old new P = IfSome old (λ past. IfSome new (λ h. (image : List ℕ) → WasAllowed (length past.steps) h image → P image))

-- the history goes on, and a crash at a moment from old to new leaves what has P
pub record LeavesOnly (old new : Option History) (P : List ℕ → Type 0) : Type 0 where
  pub goes_on : (added : List Step) × (new ≡ with_steps added old)
  pub each : EachImage old new P

-- nothing is pending
abbrev pub NothingPending : Option History → Type 0
NothingPending told = IfSome told IsSettled

-- the line is written back
abbrev pub WrittenBack : Option History → ℕ → Type 0
WrittenBack told line = IfSome told (IsWrittenBack line)

-- both lists agree on all other words
pub record SameOff (Moved : ℕ → Type 0) (a b : List ℕ) : Type 0 where
  pub size : length a ≡ length b
  pub others : (word : ℕ) → (Moved word → ⊥) → slice_index a word ≡ slice_index b word

-- the image is one that was allowed then, but for these words
abbrev pub ComesFrom : (ℕ → Type 0) → Option History → List ℕ → Type 0
ComesFrom Moved told image = IfSome told (λ past. (base : List ℕ) × IsAllowed past base × SameOff Moved image base)

-- a crash at a moment from old to new leaves what one at old could leave, but for these words
abbrev pub QuietOff : (ℕ → Type 0) → Option History → Option History → Type 0
QuietOff Moved old new = LeavesOnly old new (ComesFrom Moved old)

-- the word is one of n from first on
abbrev pub IsIn : ℕ → ℕ → ℕ → Type 0
IsIn first n word = (first ≤ word) × (word < first + n)

-- the values stand from first on, and all other words stay
pub record Puts (first : ℕ) (values old new : List ℕ) : Type 0 where
  pub put : (k : ℕ) → k < length values → slice_index new (first + k) ≡ slice_index values k
  pub same : SameOff (IsIn first (length values)) new old

-- each of these words is as before or its value, and all other words stay
pub record MayPut (first : ℕ) (values old new : List ℕ) : Type 0 where
  pub put : (k : ℕ) → k < length values → (slice_index new (first + k) ≡ slice_index old (first + k)) ⊎ (slice_index new (first + k) ≡ slice_index values k)
  pub same : SameOff (IsIn first (length values)) new old

-- a line that was written back and holds none of these words still is
abbrev pub KeepsOthersBack : (ℕ → Type 0) → Option History → Option History → Type 0
KeepsOthersBack Moved old new = (line : ℕ) → ((word : ℕ) → Moved word → word / 8 ≡ line → ⊥) → WrittenBack old line → WrittenBack new line

-- a store puts only such a value at such a word
abbrev pub StoresOnly : (ℕ → ℕ → Type 0) → Step → Type 0
StoresOnly P (Store word value) = P word value
StoresOnly P (Flush line) = Unit {0}
StoresOnly P Fence = Unit {0}

-- each of the steps stores only that
abbrev pub EachStores : (ℕ → ℕ → Type 0) → List Step → Type 0
EachStores P [] = Unit {0}
EachStores P (step ∷ steps) = StoresOnly P step × EachStores P steps

-- the history goes on by steps that store only such values at such words
pub record MakesOnly (P : ℕ → ℕ → Type 0) (old new : Option History) : Type 0 where
  pub added : List Step
  pub goes_on : new ≡ with_steps added old
  pub each : EachStores P added

-- each of the steps, made after a history, stores only what R allows over the words that read before it
abbrev pub EachStoresOver : (List ℕ → ℕ → ℕ → Type 0) → History → List Step → Type 0
EachStoresOver R past [] = Unit {0}
EachStoresOver R past (step ∷ steps) = StoresOnly (R (words_after (reads past) steps)) step × EachStoresOver R past steps

-- the history goes on by steps that store only what R allows over the words that read before each
pub record StoresOver (R : List ℕ → ℕ → ℕ → Type 0) (old new : Option History) : Type 0 where
  pub added : List Step
  pub goes_on : new ≡ with_steps added old
  pub each : IfSome old (λ past. EachStoresOver R past added)

-- the value is the one of the list for this word, where the first one is for the word first
abbrev pub IsValueOf : ℕ → List ℕ → ℕ → ℕ → Type 0
IsValueOf first values word value = (k : ℕ) × (k < length values) × (word ≡ first + k) × (value ≡ slice_index values k)

-- the stores of the first n values at the words from first on, made in their order
abbrev pub stores_of : ℕ → List ℕ → ℕ → List Step
stores_of first values zero = []
stores_of first values (suc n) = Store (first + n) (slice_index values n) ∷ stores_of first values n

-- the flushes of n lines from a line on, made in their order
abbrev pub flushes_of : ℕ → ℕ → List Step
flushes_of line zero = []
flushes_of line (suc n) = Flush (line + n) ∷ flushes_of line n

-- how many lines hold one of n words from first on
abbrev pub line_count : ℕ → ℕ → ℕ
line_count first zero = 0
line_count first (suc n) = (first + n) / 8 + 1 - first / 8
