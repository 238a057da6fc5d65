-- What the checks answer.
use Rattle.std.specs.Prelude.{◌≡◌, ℕ, ◌+◌, ◌*◌, ◌<◌, List}
use Rattle.ct_base.specs.declared.layout.TheConstants.{PAGE_WORDS, ROOT_PAGE, STAGING_SLOT, STAGING_SLOTS}
use Rattle.ct_base.specs.Rules.{Rule, HoldsAt, FailsFirst, number}
use Rattle.ct_base.specs.Walk.{word}
use Rattle.ct_check.specs.Reading.{IsBad}
use Rattle.ct_check.specs.declared.fault.CheckFault.{CheckFault}
use Rattle.ct_check.specs.declared.fault.CheckFault.TheVariants.{Damage, Memory}
use Rattle.ct_check.specs.declared.fault.Stop.{Stop}
use Rattle.ct_check.specs.declared.fault.Stop.TheVariants.{Entry}
use Rattle.ct_check.specs.declared.fault.Stop.TheVariants as stops

-- the number is that of the first rule that fails
abbrev pub Tells : List ℕ → CheckFault → Type 0
Tells img (Damage n) = (r : Rule) × (number r ≡ n) × FailsFirst img r
Tells img Memory = Unit {0}

-- a level is not read to its end where it has such an entry
abbrev pub Stops : List ℕ → Stop → Type 0
Stops img Entry = IsBad img
Stops img stops.Memory = Unit {0}

-- root slots 2 to 9 are 0
abbrev pub HasNoStaging : List ℕ → Type 0
HasNoStaging img = (k : ℕ) → k < STAGING_SLOTS → word img (ROOT_PAGE * PAGE_WORDS + STAGING_SLOT + k) ≡ 0

-- the rules with a lower number hold
abbrev pub HoldBelow : List ℕ → ℕ → Type 0
HoldBelow img n = (s : Rule) → number s < n → HoldsAt img s
