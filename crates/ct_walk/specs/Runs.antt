-- Runs of cells.
use Rattle.std.specs.Prelude.{◌≡◌, ℕ, ◌^◌, ◌<◌, ◌≤◌, ◌==◌, true, false, List}
use Rattle.ct_base.specs.declared.layout.TheConstants.{TABLE_ENTRIES}
use Rattle.ct_base.specs.Walk.{page_at}
use Rattle.ct_base.specs.Wants.{Want, is_wanted, count_below}
use Rattle.ct_walk.specs.declared.wants.Run.{Run}

-- The run is the first one from a cell on whose cells are wanted: those before it are not. An empty one stands at the end.
pub record IsNearest (wants : List Want) (d from : ℕ) (run : Run) : Type 0 where
  pub low : from ≤ run.first
  pub order : run.first ≤ run.past
  pub high : run.past ≤ TABLE_ENTRIES ^ d
  pub ends : run.first ≡ run.past → run.first ≡ TABLE_ENTRIES ^ d
  pub before : (x : ℕ) → from ≤ x → x < run.first → is_wanted wants d x ≡ false
  pub inside : (x : ℕ) → run.first ≤ x → x < run.past → is_wanted wants d x ≡ true

-- how many cells of a depth with numbers below n have no page
abbrev pub absent_below : List ℕ → ℕ → ℕ → ℕ
absent_below img d n = count_below (λ x. page_at img d x == 0) n

-- the cell is wanted and has no page
pub record IsMissing (img : List ℕ) (wants : List Want) (d x : ℕ) : Type 0 where
  pub wanted : is_wanted wants d x ≡ true
  pub absent : page_at img d x ≡ 0

-- no cell from one on and before another is
abbrev pub NoneMissing : List ℕ → List Want → ℕ → ℕ → ℕ → Type 0
NoneMissing img wants d from to = (x : ℕ) → from ≤ x → x < to → IsMissing img wants d x → ⊥
