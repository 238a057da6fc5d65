-- What a plan says of the partitions and the pages that a call lacks.
use Rattle.std.proofs.Common.{◌≡◌, ◌≢◌, ℕ, ◌<◌, ◌≤◌, List, [], Some, Result, Ok, Err, sym, ap, ◌∙◌, subst, arith}
use Rattle.std.specs.Prelude.{IfErr, OnOk}
use Rattle.ct_base.specs.Free.{HasFreePages}
use Rattle.ct_base.specs.Plan.{Plan}
use Rattle.ct_base.specs.Wants.{missing}
use Rattle.ct_tree.specs.Need.{HasNeed}
use Rattle.ct_tree.specs.Step.{Op}
use Rattle.ct_tree.specs.declared.call.Refusal.{Refusal}
use Rattle.ct_tree.specs.declared.call.Refusal.TheVariants.{NoPartition, NoPages}
use Rattle.ct_call.specs.Answers.{ForSpace, HasOnlyPlan, LacksInode, LacksPartition, SpaceAnswers}
use Rattle.ct_call.specs.Plans.{IsGrowth, IsOpen, Plans, free_of, level_of}
use Rattle.ct_call.specs.declared.plan.CallPlan.{CallPlan}
use Rattle.ct_call.specs.declared.plan.Growth.{Growth}
use Rattle.ct_call.specs.declared.plan.Growth.TheVariants.{Stays, To, Barred}

-- a growth that is not barred has a partition
pub open_part : (img : List ℕ) (g : Growth) → IsOpen g → IsGrowth img g → (level : ℕ) → level_of g ≡ Some level → free_of img level ≢ []
open_part img Stays opens part level goes = absurd (cc)
open_part img (To l) opens part level goes = let same : l ≡ level = cc in subst (λ k. free_of img k ≢ []) same part
open_part img (Barred l) opens part level goes = absurd opens

module _ {img : List ℕ} {op : Op} {p : Plan} {made : CallPlan} (o : HasOnlyPlan img op p) (is : Plans img p made) where
  pub barred : (level : ℕ) → made.growth ≡ Barred level → ¬ LacksInode img op → ForSpace img op (NoPartition level)
  barred level bar never =
      let goes : p.growth ≡ Some level = is.growth ∙ ap level_of bar in
      let at = o.object level goes in
      (never, (at.0, (p, o.has, goes, at.1), subst (IsGrowth img) bar is.part))

  has_part : IsOpen made.growth → (level : ℕ) → ¬ LacksPartition img op level
  has_part opens level lacks =
      let same : lacks.1.0 ≡ p = o.only lacks.1.0 lacks.1.1 in
      open_part img made.growth opens is.part level (sym is.growth ∙ ap (λ (x : Plan). x.growth) (sym same) ∙ lacks.1.2) lacks.2

  pub only_need : (need : ℕ) → HasNeed img op need → need ≡ missing img p.wants
  only_need need has = has.2 ∙ ap (λ (x : Plan). missing img x.wants) (o.only has.0 has.1)

  -- where there is a partition, the pages decide
  pub answers : {T : Type 0} (result : Result T Refusal) (free : ℕ) → IsOpen made.growth → ¬ LacksInode img op → ((count : ℕ) → HasFreePages img count → count ≡ free) → OnOk result (missing img made.wants ≤ free)
      → IfErr result (λ r. (n : ℕ) × HasFreePages img n × (r ≡ NoPages n (missing img made.wants)) × (n < missing img made.wants)) → SpaceAnswers img op result
  answers (Ok value) free opens never once enough lacks = (has_part opens, λ count need short. omega (arith, once count short.0, only_need need short.1, is.need opens, short.2, enough))
  answers (Err r) free opens never once enough lacks = subst (ForSpace img op) (sym lacks.2) (never, has_part opens, (lacks.1, (p, o.has, is.need opens), lacks.3))
