-- The marks of pages.
use Rattle.std.specs.Prelude.{◌≡◌, ◌≢◌, ℕ, ◌==◌, Bool, true, false, not, List, length, slice_index}

-- the page has a mark
unfoldable pub is_marked : List ℕ → ℕ → Bool
is_marked marks page = not (slice_index marks page == 0)

abbrev pub AreBlank : List ℕ → Type 0
AreBlank marks = (q : ℕ) → is_marked marks q ≡ false

-- a page gets a mark
pub record Marked (page : ℕ) (old new : List ℕ) : Type 0 where
  pub here : is_marked new page ≡ true
  pub others : (q : ℕ) → q ≢ page → is_marked new q ≡ is_marked old q
  pub length : length new ≡ length old
