-- Which inodes the slots name that a pass over the directories has met.
use Rattle.std.specs.Prelude.{◌≡◌, ◌⊎◌, ℕ, ◌<◌, true, List}
use Rattle.ct_base.specs.Objects.{Object}
use Rattle.ct_base.specs.Slots.{Names}
use Rattle.ct_marks.specs.Marks.{is_marked}

-- slot o of directory i was met: the directories before d were passed, and of that one the slots before an offset
abbrev pub IsPast : ℕ → ℕ → ℕ → ℕ → Type 0
IsPast d at i o = (i < d) ⊎ ((i ≡ d) × (o < at))

-- a slot names the inode
pub record HasName (fs : ℕ → Object) (d at c : ℕ) : Type 0 where
  pub dir : ℕ
  pub slot : ℕ
  pub past : IsPast d at dir slot
  pub names : Names fs dir slot c

-- the marked inodes are those that were named, none was twice, and inode 1 never
pub record Counts (fs : ℕ → Object) (d at : ℕ) (marks : List ℕ) : Type 0 where
  pub from : (c : ℕ) → is_marked marks c ≡ true → HasName fs d at c
  pub all : (i o c : ℕ) → IsPast d at i o → Names fs i o c → is_marked marks c ≡ true
  pub once : (i o k p c : ℕ) → IsPast d at i o → IsPast d at k p → Names fs i o c → Names fs k p c → (i ≡ k) × (o ≡ p)
  pub root : (i o : ℕ) → IsPast d at i o → Names fs i o 1 → ⊥
