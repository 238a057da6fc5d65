-- What is made of one depth, out of the lowest free pages.
use Rattle.std.specs.Prelude.{◌≡◌, ◌≢◌, true, ℕ, ◌-◌, ◌/◌, ◌^◌, ◌<◌, List, drop}
use Rattle.ct_base.specs.declared.layout.TheConstants.{PAGE_WORDS, TABLE_ENTRIES}
use Rattle.ct_base.specs.Walk.{word, page_at}
use Rattle.ct_base.specs.Wants.{Want, is_wanted}
use Rattle.ct_frames.specs.Free.{FreePages}
use Rattle.ct_walk.specs.Growth.{IsTaken}

-- the pages without the lowest free ones, so many of them
abbrev pub without_lowest : ℕ → FreePages → FreePages
without_lowest n frames = record { pages = frames.pages; free = drop n frames.free }

-- the word lies on a page that was taken
abbrev pub IsOnTaken : FreePages → FreePages → ℕ → Type 0
IsOnTaken before after w = IsTaken before after (w / PAGE_WORDS)

-- each page that was taken holds zeros
abbrev pub AreZeros : List ℕ → FreePages → FreePages → Type 0
AreZeros img before after = (w : ℕ) → IsOnTaken before after w → word img w ≡ 0

-- the table of each wanted cell of a depth is there
abbrev pub HaveTables : List ℕ → List Want → ℕ → Type 0
HaveTables img wants d = (x : ℕ) → x < TABLE_ENTRIES ^ d → is_wanted wants d x ≡ true → page_at img (d - 1) (x / TABLE_ENTRIES) ≢ 0
