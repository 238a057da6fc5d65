-- The mount rules in their order.
use Rattle.std.proofs.Common.{◌≡◌, ℕ, ◌+◌, ◌<◌, ◌≤◌, List, refl, sym, ap, ◌∙◌, subst, inl, inr, arith}
use Rattle.std.specs.Prelude.{◌==◌, if◌then◌else◌}
use Rattle.std.proofs.lemmas.Bool.{cases_eq}
use Rattle.ct_base.specs.Rules.{Rule, entries, once, inodes, placed, apart, tails, mapped, headers, rest, slots, names, named, reached, number, HoldsAt}
use Rattle.ct_check.specs.Rules.{HoldBelow, Tells}
use Rattle.ct_check.specs.declared.fault.CheckFault.TheVariants.{Damage}

abbrev rule_of : ℕ → Rule
rule_of n =
    if n == 8 then entries else (if n == 9 then once else (if n == 10 then inodes else (if n == 11 then placed else (if n == 12 then apart else (if n == 13 then tails else (
    if n == 14 then mapped else (if n == 15 then headers else (if n == 16 then rest else (if n == 17 then slots else (if n == 18 then names else (if n == 19 then named else reached)))))))))))

rule_is : (r : Rule) → rule_of (number r) ≡ r
rule_is entries = refl
rule_is once = refl
rule_is inodes = refl
rule_is placed = refl
rule_is apart = refl
rule_is tails = refl
rule_is mapped = refl
rule_is headers = refl
rule_is rest = refl
rule_is slots = refl
rule_is names = refl
rule_is named = refl
rule_is reached = refl

pub number_least : (r : Rule) → 8 ≤ number r
number_least entries = omega arith
number_least once = omega arith
number_least inodes = omega arith
number_least placed = omega arith
number_least apart = omega arith
number_least tails = omega arith
number_least mapped = omega arith
number_least headers = omega arith
number_least rest = omega arith
number_least slots = omega arith
number_least names = omega arith
number_least named = omega arith
number_least reached = omega arith

-- no rule comes before rule 8
pub below_first : (img : List ℕ) → HoldBelow img 8
below_first img s lt = absurd (omega (arith, number_least s))

-- one more rule holds
pub below_more : (img : List ℕ) (r : Rule) {n : ℕ} → n ≡ number r + 1 → HoldBelow img (number r) → HoldsAt img r → HoldBelow img n
below_more img r e below holds s lt = elim (cases_eq (number r) (number s)) [
  | inl same ↦ subst (HoldsAt img) (sym (rule_is r) ∙ ap rule_of same ∙ rule_is s) holds
  | inr other ↦ below s (omega arith)
]

-- the rules below hold and this one does not: it fails first
pub fails_first : (img : List ℕ) (r : Rule) → HoldBelow img (number r) → (HoldsAt img r → ⊥) → Tells img (Damage (number r))
fails_first img r below fails = (r, refl, record { fails = fails; before = below })
