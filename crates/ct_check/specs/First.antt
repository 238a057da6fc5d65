-- The first mount rule that fails, of 0 to 20. Rules 0 to 7 are read on an image as it is, the others on what it settles to.
use Rattle.std.specs.Prelude.{ℕ, ◌<◌, List}
use Rattle.ct_base.specs.Head.{HeadRule, HeadHolds, head_number}
use Rattle.ct_base.specs.Rules.{Rule, HoldsAt, number}
use Rattle.ct_base.specs.Settled.{settled}

pub data MountRule : Type 0 where
  head : HeadRule → MountRule
  body : Rule → MountRule

abbrev pub mount_number : MountRule → ℕ
mount_number (head r) = head_number r
mount_number (body r) = number r

abbrev pub MountHolds : List ℕ → MountRule → Type 0
MountHolds img (head r) = HeadHolds img r
MountHolds img (body r) = HoldsAt (settled img) r

-- the rule is the first that fails
pub record MountFailsFirst (img : List ℕ) (r : MountRule) : Type 0 where
  pub fails : MountHolds img r → ⊥
  pub before : (s : MountRule) → mount_number s < mount_number r → MountHolds img s
