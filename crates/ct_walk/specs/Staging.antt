-- What is there after a root slot was emptied.
use Rattle.std.specs.Prelude.{◌≡◌, ◌≢◌, ℕ, ◌-◌, ◌/◌, ◌^◌, ◌≤◌, List}
use Rattle.ct_base.specs.declared.layout.TheConstants.{TABLE_ENTRIES}
use Rattle.ct_base.specs.Walk.{page_at, AreTables}

-- Nothing is reached by way of the root slot, and each other cell is as it was. Cell (d, x) is below root slot x / TABLE_ENTRIES ^ (d - 1).
pub record Unstaged (old new : List ℕ) (slot : ℕ) : Type 0 where
  pub tables : AreTables new
  pub gone : (d x : ℕ) → 1 ≤ d → d ≤ 4 → x / TABLE_ENTRIES ^ (d - 1) ≡ slot → page_at new d x ≡ 0
  pub others : (d x : ℕ) → 1 ≤ d → d ≤ 4 → x / TABLE_ENTRIES ^ (d - 1) ≢ slot → page_at new d x ≡ page_at old d x
