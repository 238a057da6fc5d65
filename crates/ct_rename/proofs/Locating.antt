-- Where a rename leaves its entry and what it grew, and how many pages it took.
use Rattle.std.proofs.Common.{◌≡◌, ℕ, ◌+◌, ◌≤◌, List, length, Some, sym, ap, subst, ◌∙◌, arith}
use Rattle.ct_base.specs.Free.{HasFreePages}
use Rattle.ct_base.specs.Plan.{Plan}
use Rattle.ct_base.specs.Rules.{names as names_apart}
use Rattle.ct_base.specs.Wants.{missing}
use Rattle.ct_call.proofs.Spaced.{only_need}
use Rattle.ct_commit.specs.Rest.{IsAtRest}
use Rattle.ct_call.specs.Placed.{IsMoved, Places}
use Rattle.ct_call.specs.Plans.{IsOpen, level_of}
use Rattle.ct_call.specs.declared.plan.CallPlan.{CallPlan}
use Rattle.ct_frames.specs.Free.{FreePages}
use Rattle.ct_state.proofs.Resolve.{leads_once}
use Rattle.ct_tree.specs.Checks.{names}
use Rattle.ct_tree.specs.Lands.{files}
use Rattle.ct_tree.specs.Need.{IsParentAt}
use Rattle.ct_tree.specs.Resolve.{parent}
use Rattle.ct_tree.specs.Step.{rename}
use Rattle.ct_rename.specs.Forms.{IsForm}
use Rattle.ct_rename.specs.Renamed.{IsPlanFor, renamed, room_dir}
use Rattle.ct_rename.specs.declared.find.Form.{Form}
use Rattle.ct_rename.specs.declared.find.Form.TheVariants.{Same, New, Over}
use Rattle.ct_rename.proofs.Calling.{form_plans, no_level, only_plan, plan_by}
use Rattle.ct_rename.proofs.Slotted.{renames_at}

module _ {w : List ℕ} (path to : List ℕ) (rest : IsAtRest w) where
  -- what grows is the directory of the new name
  grown_dir : (form : Form) → IsForm w path to form → (i level : ℕ) → (plan_by w form).growth ≡ Some level → IsParentAt w to i → i ≡ room_dir form
  grown_dir Same is i level goes at = absurd (no_level goes)
  grown_dir (New e spot) is i level goes at = leads_once (files w) (rest.sound names_apart) 1 i spot.dir (parent (names to)) at is.2.parent
  grown_dir (Over e there gone) is i level goes at = absurd (no_level goes)

  pub places : (form : Form) → IsForm w path to form → (made : CallPlan) → IsPlanFor w form made → (new : List ℕ) → files new ≡ renamed (files w) form → (before free : FreePages) → IsOpen made.growth → ((count : ℕ) → HasFreePages w count → count ≡ length before.free)
      → ((count : ℕ) → HasFreePages new count → count ≡ length free.free) → ((level : ℕ) → level_of made.growth ≡ Some level → IsMoved (λ v. ⊥) w new (room_dir form) level)
      → length before.free ≤ length free.free + missing w made.wants → Places w new (rename path to)
  places form is made plan new same before free opens once once_after moved taken =
      let o = only_plan path to rest form is in
      let p = form_plans path to rest form is made plan in
      record {
        entry = renames_at rest path to form is new same;
        moved = λ i level grows.
            let goes : (plan_by w form).growth ≡ Some level = ap (λ (x : Plan). x.growth) (sym (o.only grows.0 grows.1)) ∙ grows.2 in
            subst (λ d. IsMoved (λ v. ⊥) w new d level) (sym (grown_dir form is i level goes grows.3)) (moved level (sym p.growth ∙ goes));
        taken = λ b a need had has_after needs. omega (arith, once b had, once_after a has_after, only_need o p need needs, p.need opens, taken);
      }
