-- Whether wants are met.
use Rattle.std.specs.Prelude.{◌≡◌, ◌≢◌, true, ℕ, ◌+◌, ◌-◌, ◌*◌, ◌/◌, ◌^◌, ◌<◌, ◌≤◌, List, [], ◌∷◌}
use Rattle.ct_base.specs.declared.layout.TheConstants.{ADDRESS_END, PAGE_BYTES, TABLE_ENTRIES}
use Rattle.ct_base.specs.Walk.{page_at}
use Rattle.ct_base.specs.Wants.{Want, is_on_path, is_wanted}

-- the page or the table of the want's height is there for each of its addresses
abbrev pub Has : List ℕ → Want → Type 0
Has img want = (v : ℕ) → want.at ≤ v → v < want.at + want.len → page_at img (4 - want.height) (v / (PAGE_BYTES * TABLE_ENTRIES ^ want.height)) ≢ 0

abbrev pub HasAll : List ℕ → List Want → Type 0
HasAll img [] = Unit {0}
HasAll img (want ∷ wants) = Has img want × HasAll img wants

-- a want of a height at one address
abbrev pub at_one : ℕ → ℕ → List Want
at_one height v = record { height = height; at = v; len = 1 } ∷ []

-- a want has one of the five heights and at least one address, and its addresses are below their end
abbrev pub IsInRange : Want → Type 0
IsInRange want = (want.height ≤ 4) × (1 ≤ want.len) × (want.at + want.len ≤ ADDRESS_END)

abbrev pub AreInRange : List Want → Type 0
AreInRange [] = Unit {0}
AreInRange (want ∷ wants) = IsInRange want × AreInRange wants

-- what is on the path of the want is wanted
abbrev pub IsAmong : Want → List Want → Type 0
IsAmong want wants = (d x : ℕ) → is_on_path d x want ≡ true → is_wanted wants d x ≡ true
