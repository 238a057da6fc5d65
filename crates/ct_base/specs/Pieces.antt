-- Two ranges of n virtual pages, from a and from b on, are exchanged piece by piece. A piece of height k is an
-- aligned run of 512 ^ k pages on both sides.
use Rattle.std.specs.Prelude.{◌≡◌, ℕ, zero, suc, ◌+◌, ◌%◌, ◌^◌, ◌<◌, ◌≤◌, ◌==◌, nat_lt, nat_le, Bool, ◌&&◌, cond, if◌then◌else◌, List, [], ◌∷◌, Contains}
use Rattle.ct_base.specs.declared.layout.TheConstants.{SLOT_PAGES, TABLE_ENTRIES}

-- w pages from offset i on lie inside the range, and both sides begin at a multiple of w
abbrev pub fits : ℕ → ℕ → ℕ → ℕ → ℕ → Bool
fits a b n i w = (((a + i) % w == 0) && ((b + i) % w == 0)) && nat_le (i + w) n

-- the greatest height from 0 to 3 at which a piece may begin at offset i
unfoldable pub height_at : ℕ → ℕ → ℕ → ℕ → ℕ
height_at a b n i =
    if fits a b n i (TABLE_ENTRIES ^ 3) then 3 else (if fits a b n i (TABLE_ENTRIES ^ 2) then 2 else (if fits a b n i (TABLE_ENTRIES ^ 1) then 1 else 0))

-- at most this many pieces, as (offset, height), from offset i on
abbrev pub pieces_from : ℕ → ℕ → ℕ → ℕ → ℕ → List (ℕ × ℕ)
pieces_from zero a b n i = []
pieces_from (suc steps) a b n i =
    cond (nat_lt i n) ((i, height_at a b n i) ∷ pieces_from steps a b n (i + TABLE_ENTRIES ^ height_at a b n i)) []

-- the pieces of the whole range, each as high as can be. There are at most n, since each takes one page or more
abbrev pub pieces : ℕ → ℕ → ℕ → List (ℕ × ℕ)
pieces a b n = pieces_from n a b n 0

-- a block (offset, height) that may be exchanged by itself
pub record IsBlock (a b n : ℕ) (block : ℕ × ℕ) : Type 0 where
  pub height : block.1 ≤ 3
  pub first : (a + block.0) % TABLE_ENTRIES ^ block.1 ≡ 0
  pub second : (b + block.0) % TABLE_ENTRIES ^ block.1 ≡ 0
  pub inside : block.0 + TABLE_ENTRIES ^ block.1 ≤ n

-- each offset below n lies in one of the blocks
abbrev pub Covers : List (ℕ × ℕ) → ℕ → Type 0
Covers blocks n =
    (o : ℕ) → o < n → (block : ℕ × ℕ) × (Contains blocks block) × (block.0 ≤ o) × (o < block.0 + TABLE_ENTRIES ^ block.1)

-- n pages from a on lie inside one root slot, which has 2 ^ 27 of them
abbrev pub InOneSlot : ℕ → ℕ → Type 0
InOneSlot a n = a % SLOT_PAGES + n ≤ SLOT_PAGES

-- at each height at which a piece is not too long, the two begin alike
abbrev pub AlignedAlike : ℕ → ℕ → ℕ → Type 0
AlignedAlike a b n = (k : ℕ) → k ≤ 3 → TABLE_ENTRIES ^ k ≤ n → a % TABLE_ENTRIES ^ k ≡ b % TABLE_ENTRIES ^ k
