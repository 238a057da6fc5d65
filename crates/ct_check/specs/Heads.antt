-- The rules on the superblock and the gates, in their order.
use Rattle.std.specs.Prelude.{◌≡◌, ℕ, ◌<◌, List}
use Rattle.ct_base.specs.Head.{HeadRule, HeadHolds, head_number}

-- none of these rules with a lower number fails
abbrev pub HeadsBelow : List ℕ → ℕ → Type 0
HeadsBelow img n = (s : HeadRule) → head_number s < n → HeadHolds img s

-- the rule is the first of these that fails
pub record HeadFailsFirst (img : List ℕ) (r : HeadRule) : Type 0 where
  pub fails : HeadHolds img r → ⊥
  pub before : HeadsBelow img (head_number r)

-- the number is that of the first of these that fails
abbrev pub HeadTells : List ℕ → ℕ → Type 0
HeadTells img n = (r : HeadRule) × (head_number r ≡ n) × HeadFailsFirst img r
