-- What the way to a cell meets.
use Rattle.std.specs.Prelude.{◌≡◌, ◌≢◌, ℕ, ◌+◌, ◌^◌, ◌<◌, ◌≤◌, List}
use Rattle.ct_base.specs.declared.layout.TheConstants.{TABLE_ENTRIES}
use Rattle.ct_base.specs.Walk.{page_at}
use Rattle.ct_walk.specs.declared.absent.Look.{Look}
use Rattle.ct_walk.specs.declared.absent.Look.TheVariants.{Present, Absent}

-- the page of the cell, or that so many cells from it on have none
abbrev pub Finds : List ℕ → ℕ → ℕ → Look → Type 0
Finds img d x (Present page) = (page ≡ page_at img d x) × (page ≢ 0) × (page < 2 ^ 52)
Finds img d x (Absent cells) = (1 ≤ cells) × (x + cells ≤ TABLE_ENTRIES ^ d) × ((y : ℕ) → x ≤ y → y < x + cells → page_at img d y ≡ 0)
