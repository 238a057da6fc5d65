-- The plan of a new entry, as it is made.
use Rattle.std.proofs.Common.{◌≡◌, ◌≢◌, ℕ, ◌+◌, List, [], ◌∷◌, ◌++◌, Some, None, sym, ap, ◌∙◌, subst}
use Rattle.ct_base.specs.declared.inode.Inode.{Inode}
use Rattle.ct_base.specs.Inode.{Partition}
use Rattle.ct_base.specs.Plan.{growth_wants, next_part}
use Rattle.ct_base.specs.View.{inode_count, view}
use Rattle.ct_base.specs.Wants.{Want}
use Rattle.ct_enter.specs.Plans.{IsEntryPlan, entry_wants, slot_growth}
use Rattle.ct_call.specs.Plans.{IsGrowth, free_of, grown_wants, level_of, part_then}
use Rattle.ct_call.specs.declared.plan.CallPlan.{CallPlan}
use Rattle.ct_call.specs.declared.plan.Growth.{Growth}
use Rattle.ct_call.specs.declared.plan.Growth.TheVariants.{Stays, To}

no_list : {A : Type 0} {x : A} {xs ys : List A} → ys ≡ [] → ys ≡ x ∷ xs → ⊥
no_list none some = absurd (cc)

module _ (w : List ℕ) (f : Inode) (offset number : ℕ) (made : CallPlan) where
  pub stays_plan : {grown : List Want} → slot_growth f offset ≡ None → made.growth ≡ Stays → grown ≡ [] → made.wants ≡ grown ++ entry_wants (f.base + offset) number → made.rest ≡ entry_wants (f.base + offset) number
      → IsEntryPlan w f offset number made
  stays_plan goes is none wants rest = record {
    growth = ap level_of is ∙ sym goes;
    part = subst (IsGrowth w) (sym is) tt;
    rest = λ opens. subst (λ (x : Growth). made.rest ≡ entry_wants ((part_then w f (level_of x)).base + offset) number) (sym is) rest;
    wants = λ opens. subst (λ (x : Growth). made.wants ≡ grown_wants w f (level_of x) ++ made.rest) (sym is) (wants ∙ ap (λ (ms : List Want). ms ++ entry_wants (f.base + offset) number) none ∙ sym rest);
  }

  pub grows_plan : {grown : List Want} {p : Partition} {ps : List Partition} (level slot : ℕ) → slot_growth f offset ≡ Some level → free_of w level ≡ p ∷ ps → slot ≡ (next_part (view w) (inode_count w) level).base + offset
      → made.growth ≡ To level → grown ≡ growth_wants f (next_part (view w) (inode_count w) level) → made.wants ≡ grown ++ entry_wants slot number → made.rest ≡ entry_wants slot number → IsEntryPlan w f offset number made
  grows_plan level slot goes free at is asked wants rest =
      let some : free_of w level ≢ [] = λ none. no_list none free in
      let here : made.rest ≡ entry_wants ((next_part (view w) (inode_count w) level).base + offset) number = rest ∙ ap (λ v. entry_wants v number) at in
      record {
        growth = ap level_of is ∙ sym goes;
        part = subst (IsGrowth w) (sym is) some;
        rest = λ opens. subst (λ (x : Growth). made.rest ≡ entry_wants ((part_then w f (level_of x)).base + offset) number) (sym is) here;
        wants = λ opens. subst (λ (x : Growth). made.wants ≡ grown_wants w f (level_of x) ++ made.rest) (sym is) (wants ∙ ap (λ (ms : List Want). ms ++ entry_wants slot number) asked ∙ ap (λ (ms : List Want). growth_wants f (next_part (view w) (inode_count w) level) ++ ms) (sym rest));
      }
