-- Which inodes were reached from inode 1, and which of them are still to be visited.
use Rattle.std.specs.Prelude.{◌≡◌, ◌⊎◌, ℕ, zero, suc, ◌+◌, ◌<◌, true, if◌then◌else◌, List, All, Contains}
use Rattle.ct_base.specs.Objects.{Object}
use Rattle.ct_base.specs.Slots.{Names, Steps}
use Rattle.ct_marks.specs.Marks.{is_marked}

-- each inode that the directory names has a mark
abbrev pub AreChildrenMarked : (ℕ → Object) → List ℕ → ℕ → Type 0
AreChildrenMarked fs marks i = (o c : ℕ) → Names fs i o c → is_marked marks c ≡ true

-- The marked inodes are reached. What they name is marked, but for those that are to be visited, and for directory d, of
-- which the slots before an offset were.
pub record Visits (fs : ℕ → Object) (d at : ℕ) (marks visit : List ℕ) : Type 0 where
  pub root : is_marked marks 1 ≡ true
  pub from : (c : ℕ) → is_marked marks c ≡ true → (k : ℕ) × Steps fs k c
  pub listed : All (λ c. is_marked marks c ≡ true) visit
  pub done : (i : ℕ) → is_marked marks i ≡ true → Contains visit i ⊎ ((i ≡ d) ⊎ AreChildrenMarked fs marks i)
  pub dir : (o c : ℕ) → Names fs d o c → is_marked marks d ≡ true
  pub here : (o c : ℕ) → o < at → Names fs d o c → is_marked marks c ≡ true

-- how many of the numbers below n have no mark
unfoldable pub unmarked : List ℕ → ℕ → ℕ
unmarked marks zero = 0
unmarked marks (suc n) = if is_marked marks n then unmarked marks n else unmarked marks n + 1
