-- What a format stores, and what a crash leaves while it runs.
use Rattle.std.specs.Prelude.{◌≡◌, ◌⊎◌, ℕ, ◌-◌, ◌/◌, ◌≤◌, List, [], ◌∷◌, ◌*◌, length, slice_index}
use Rattle.std.specs.declared.option.Option.{Option}
use Rattle.ct_base.specs.declared.layout.TheConstants.{LONG_GATE, PAGE_WORDS, ROOT_PAGE, ROOT_WORD, SHORT_GATE}
use Rattle.ct_base.specs.Format.{value, format_words}
use Rattle.ct_base.specs.Head.{HeadHolds, size, magic}
use Rattle.ct_format.specs.declared.formatting.TheConstants.{FREE_PAGE, MAGIC}
use Rattle.ct_pm.specs.declared.step.Step.{Step}
use Rattle.ct_pm.specs.declared.step.Step.TheVariants.{Store, Flush, Fence}
use Rattle.ct_pm.specs.Images.{History, first}
use Rattle.ct_pm.specs.Device.{with_steps, LeavesOnly, MakesOnly, QuietOff, SameOff, WrittenBack, IsIn}
use Rattle.ct_tree.specs.Lands.{Lands}
use Rattle.ct_tree.specs.Tree.{Dir, none}

-- the words that are not 0, but for the magic
abbrev pub format_rows : ℕ → ℕ → List (ℕ × ℕ)
format_rows pages n = (1, 1) ∷ (2, pages) ∷ (3, n) ∷ format_words

-- what a word gets
unfoldable pub format_word : ℕ → ℕ → ℕ → ℕ
format_word pages n w = value (format_rows pages n) w

-- the superblock but for the magic, the gates, and the tables with their pages
abbrev pub IsHeadWord : ℕ → Type 0
IsHeadWord = IsIn 1 (PAGE_WORDS - 1)

abbrev pub IsGate : ℕ → Type 0
IsGate w = (w ≡ LONG_GATE) ⊎ (w ≡ SHORT_GATE)

abbrev pub IsTableWord : ℕ → Type 0
IsTableWord = IsIn ROOT_WORD ((FREE_PAGE - ROOT_PAGE) * PAGE_WORDS)

-- a word that is stored before the magic is
abbrev pub IsLaidOut : ℕ → Type 0
IsLaidOut w = IsHeadWord w ⊎ (IsGate w ⊎ IsTableWord w)

-- a word that a format stores
abbrev pub IsFormatWord : ℕ → Type 0
IsFormatWord w = (w ≡ 0) ⊎ IsLaidOut w

-- work that stores these words alone, whether it is done or stopped
pub record Lays (Moved : ℕ → Type 0) (was words : List ℕ) (old new : Option History) : Type 0 where
  pub same : SameOff Moved words was
  pub quiet : QuietOff Moved old new
  pub made : MakesOnly (λ at put. Moved at) old new

-- each of these words has its value, and is written back
pub record Laid (Moved : ℕ → Type 0) (values : ℕ → ℕ) (words : List ℕ) (old new : Option History) : Type 0 where
  pub put : (w : ℕ) → Moved w → slice_index words w ≡ values w
  pub back : (w : ℕ) → Moved w → WrittenBack new (w / 8)
  pub still : (line : ℕ) → WrittenBack old line → WrittenBack new line

-- the words are laid out
abbrev pub HasWords : ℕ → ℕ → List ℕ → Type 0
HasWords pages n words = (w : ℕ) → IsLaidOut w → slice_index words w ≡ format_word pages n w

-- the first few of these steps were made
abbrev pub Makes : List Step → Option History → Option History → Type 0
Makes steps old new = (n : ℕ) × (n ≤ length steps) × (new ≡ with_steps (first n steps) old)

-- word 0 is stored, and waited for
abbrev pub magic_steps : ℕ → List Step
magic_steps v = Fence ∷ Flush 0 ∷ Store 0 v ∷ []

-- mount rule 1 is the first that fails
pub record IsRefused (img : List ℕ) : Type 0 where
  pub sized : HeadHolds img size
  pub other : HeadHolds img magic → ⊥

-- it is refused, or lands on the empty tree
abbrev pub IsEmptyOrRefused : List ℕ → Type 0
IsEmptyOrRefused img = IsRefused img ⊎ Lands img (Dir none)

-- it is what the device held at entry, or is refused
abbrev pub IsStartOrRefused : List ℕ → List ℕ → Type 0
IsStartOrRefused start img = (img ≡ start) ⊎ IsRefused img

-- The device failed before the first fence was made: a crash leaves what it held, or what is refused.
pub record StopsUnfenced (start : List ℕ) (old new : Option History) : Type 0 where
  pub steps : Makes (Flush 0 ∷ Store 0 0 ∷ []) old new
  pub images : LeavesOnly old new (IsStartOrRefused start)

-- The first fence was made. Until then a crash leaves what the device held, or what is refused; from then on what is
-- refused; and from the store of the magic on what is refused or lands on the empty tree.
pub record GoesOnFenced (start : List ℕ) (old new : Option History) : Type 0 where
  pub fenced : Option History
  pub laid : Option History
  pub unmark : fenced ≡ with_steps (magic_steps 0) old
  pub before : LeavesOnly old fenced (IsStartOrRefused start)
  pub between : LeavesOnly fenced laid IsRefused
  pub mark : Makes (magic_steps MAGIC) laid new
  pub after : LeavesOnly laid new IsEmptyOrRefused

-- what a crash leaves at each moment of a format
abbrev pub Formats : List ℕ → Option History → Option History → Type 0
Formats start old new = StopsUnfenced start old new ⊎ GoesOnFenced start old new

-- what a crash leaves at any moment of a format: what the device held, what is refused, or what lands on the empty tree
abbrev pub IsFormatImage : List ℕ → List ℕ → Type 0
IsFormatImage start img = (img ≡ start) ⊎ IsEmptyOrRefused img
