-- Blocks (offset, height) of 512 ^ height pages that cover a range.
use Rattle.std.specs.Prelude.{◌≡◌, ℕ, ◌+◌, ◌^◌, ◌<◌, ◌≤◌, List, Contains}
use Rattle.ct_base.specs.declared.layout.TheConstants.{TABLE_ENTRIES}

-- the offset lies in the block
pub record LiesIn (block : ℕ × ℕ) (o : ℕ) : Type 0 where
  pub from : block.0 ≤ o
  pub to : o < block.0 + TABLE_ENTRIES ^ block.1

-- the offset lies in one block of the list, and in no other
pub record LiesInOne (blocks : List (ℕ × ℕ)) (o : ℕ) : Type 0 where
  pub block : ℕ × ℕ
  pub one : Contains blocks block
  pub inside : LiesIn block o
  pub only : (other : ℕ × ℕ) → Contains blocks other → LiesIn other o → other ≡ block

abbrev pub CoverOnce : List (ℕ × ℕ) → ℕ → Type 0
CoverOnce blocks n = (o : ℕ) → o < n → LiesInOne blocks o
