-- The plan of a call that makes an object in a directory: there is one, and one alone.
use Rattle.std.proofs.Common.{◌≡◌, ℕ, List, Option, Some, None, refl, sym, ap, ◌∙◌}
use Rattle.ct_base.specs.declared.inode.Inode.{Inode}
use Rattle.ct_base.specs.Inode.{Partition, inode}
use Rattle.ct_base.specs.Plan.{Plan, create_plan, first_free_number, grown}
use Rattle.ct_base.specs.Rules.{names as names_apart}
use Rattle.ct_base.specs.Slots.{free_slot}
use Rattle.ct_base.specs.View.{view, inode_count}
use Rattle.ct_base.specs.Wants.{Want}
use Rattle.ct_state.proofs.Resolve.{leads_once}
use Rattle.ct_tree.specs.Checks.{names}
use Rattle.ct_tree.specs.Lands.{files}
use Rattle.ct_tree.specs.Need.{IsParentAt, PlansCreate}
use Rattle.ct_tree.specs.Resolve.{parent}
use Rattle.ct_tree.specs.Runs.{MakesNode}
use Rattle.ct_call.specs.Answers.{HasOnlyPlan, LacksInode}
use Rattle.ct_call.specs.Calls.{IsChange}
use Rattle.ct_enter.specs.Makes.{make_op}
use Rattle.ct_commit.specs.Rest.{IsAtRest}
use Rattle.ct_enter.specs.Plans.{plan_for, slot_growth}
use Rattle.ct_find.specs.Spots.{IsNextSlot}
use Rattle.ct_find.specs.declared.kind.Kind.{Kind}
use Rattle.ct_find.specs.declared.kind.Kind.TheVariants.{File as file, Directory as directory}

grown-growth : (b : ℕ → ℕ) (count : ℕ) (f : Inode) (g : Option ℕ) (more : Partition → List Want) → (grown b count f g more).growth ≡ g
grown-growth b count f None more = refl
grown-growth b count f (Some level) more = refl

-- the growth of a plan is that of its directory
pub plan-growth : (img : List ℕ) (f : Inode) (offset number : ℕ) → (plan_for img f offset number).growth ≡ slot_growth f offset
plan-growth img f offset number = grown-growth (view img) (inode_count img) f (slot_growth f offset) _

pub makes_node : (kind : Kind) (path : List ℕ) → MakesNode (make_op kind path)
makes_node file path = tt
makes_node directory path = tt

pub changes : (kind : Kind) (path : List ℕ) → IsChange (make_op kind path)
changes file path = tt
changes directory path = tt

-- there is one inode that is the lowest free one
pub one_number : (img : List ℕ) {number : ℕ} → first_free_number (view img) (inode_count img) ≡ Some number → (n : ℕ) → first_free_number (view img) (inode_count img) ≡ Some n → n ≡ number
one_number img {number} first n other = let both : Some n ≡ Some number = sym other ∙ first in cc

pub has_inode : (img : List ℕ) {number : ℕ} (kind : Kind) (path : List ℕ) → first_free_number (view img) (inode_count img) ≡ Some number → ¬ LacksInode img (make_op kind path)
has_inode img {number} kind path first lacks = let both : None ≡ Some number = sym lacks.1 ∙ first in absurd (cc)

module _ {img : List ℕ} (rest : IsAtRest img) {dir : ℕ} {f : Inode} {offset : ℕ} (s : IsNextSlot img dir f offset) {number : ℕ} (first : first_free_number (view img) (inode_count img) ≡ Some number)
    (path : List ℕ) (leads : IsParentAt img path dir) where
  pub one_dir : (d : ℕ) → IsParentAt img path d → d ≡ dir
  one_dir d at = leads_once (files img) (rest.sound names_apart) 1 d dir (parent (names path)) at leads

  -- a plan by the directory's number is the one by its inode and the slot
  plan_is : create_plan (view img) (inode_count img) (inode (view img) dir) (free_slot (files img dir)) number ≡ plan_for img f offset number
  plan_is =
      ap (λ g. create_plan (view img) (inode_count img) g (free_slot (files img dir)) number) s.is
      ∙ ap (λ o. create_plan (view img) (inode_count img) f o number) (sym s.first)

  has : PlansCreate img path (plan_for img f offset number)
  has = (dir, number, leads, first, sym plan_is)

  only : (p : Plan) → PlansCreate img path p → p ≡ plan_for img f offset number
  only p plans =
      plans.4
      ∙ ap (λ i. create_plan (view img) (inode_count img) (inode (view img) i) (free_slot (files img i)) plans.1) (one_dir plans.0 plans.2)
      ∙ ap (λ n. create_plan (view img) (inode_count img) (inode (view img) dir) (free_slot (files img dir)) n) (one_number img first plans.1 plans.3)
      ∙ plan_is

  pub only_plan : (kind : Kind) → HasOnlyPlan img (make_op kind path) (plan_for img f offset number)
  only_plan file = record { has = has; only = only; object = λ level goes. (dir, leads) }
  only_plan directory = record { has = has; only = only; object = λ level goes. (dir, leads) }
