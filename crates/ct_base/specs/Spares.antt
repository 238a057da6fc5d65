-- Stores and records that spare the pages of live files.
use Rattle.std.specs.Prelude.{ℕ, ◌/◌, List}
use Rattle.ct_base.specs.Free.{IsFilePage}
use Rattle.ct_base.specs.Settled.{Named, open_pairs, settled}
use Rattle.ct_base.specs.declared.layout.TheConstants.{PAGE_WORDS}

-- the word lies on no page of a live file of what the image settles to
abbrev pub SparesFiles : List ℕ → ℕ → ℕ → Type 0
SparesFiles image word value = IsFilePage (settled image) (word / PAGE_WORDS) → ⊥

-- no pair of the image's open record names a word of a page under a live file
abbrev pub SparesReplay : List ℕ → Type 0
SparesReplay image = (word : ℕ) → Named (open_pairs image) word → IsFilePage (settled image) (word / PAGE_WORDS) → ⊥
