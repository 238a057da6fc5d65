-- The rules of the head and those of the settled image as one row.
use Rattle.std.proofs.Common.{◌≡◌, ℕ, ◌<◌, List, inl, inr, arith}
use Rattle.std.proofs.lemmas.Bool.{cases_eq, cases_lt}
use Rattle.ct_base.specs.Head.{HasHead, HeadRule, head_number}
use Rattle.ct_base.specs.Rules.{FailsFirst, Rule, Sound, number}
use Rattle.ct_base.specs.Settled.{settled}
use Rattle.ct_state.proofs.States.{head_of, head_rules}
use Rattle.ct_check.specs.First.{MountFailsFirst, MountHolds, MountRule, body, head, mount_number}
use Rattle.ct_check.specs.Heads.{HeadFailsFirst}
use Rattle.ct_check.proofs.Heads.{head_most}
use Rattle.ct_check.proofs.Order.{number_least}

pub one_first : (img : List ℕ) (r s : MountRule) → MountFailsFirst img r → MountFailsFirst img s → mount_number r ≡ mount_number s
one_first img r s f g = elim (cases_lt (mount_number r) (mount_number s)) [
  | inl lt ↦ absurd (f.fails (g.before r lt))
  | inr ge ↦ elim (cases_eq (mount_number r) (mount_number s)) [
    | inl same ↦ same
    | inr other ↦ absurd (g.fails (f.before s (omega arith)))
  ]
]

module _ (img : List ℕ) where
  pub head_first : (r : HeadRule) → HeadFailsFirst img r → MountFailsFirst img (head r)
  head_first r f = record { fails = f.fails; before = before }
    where
      before : (s : MountRule) → mount_number s < head_number r → MountHolds img s
      before (head s) lt = f.before s lt
      before (body s) lt = absurd (omega (arith, head_most r, number_least s))

  pub first_head : (r : HeadRule) → MountFailsFirst img (head r) → HeadFailsFirst img r
  first_head r f = record { fails = f.fails; before = λ s lt. f.before (head s) lt }

  pub body_first : (r : Rule) → HasHead img → FailsFirst (settled img) r → MountFailsFirst img (body r)
  body_first r h f = record { fails = f.fails; before = before }
    where
      before : (s : MountRule) → mount_number s < number r → MountHolds img s
      before (head s) lt = head_rules h s
      before (body s) lt = f.before s lt

  pub first_body : (r : Rule) → MountFailsFirst img (body r) → HasHead img × FailsFirst (settled img) r
  first_body r f = (
    head_of (λ s. f.before (head s) (omega (arith, head_most s, number_least r))),
    record { fails = f.fails; before = λ s lt. f.before (body s) lt },
  )

  pub all_hold : HasHead img → Sound (settled img) → (r : MountRule) → MountHolds img r
  all_hold h sound (head r) = head_rules h r
  all_hold h sound (body r) = sound r
