-- The plan of a removal, and what the call leaves.
use Rattle.std.proofs.Common.{◌≡◌, ℕ, ◌+◌, ◌≤◌, List, length, Some, None, Option, refl, sym, ap, ◌∙◌, ◌⊎◌, subst, inl, inr, arith}
use Rattle.ct_base.specs.declared.inode.Inode.{Inode}
use Rattle.ct_base.specs.Free.{HasFreePages}
use Rattle.ct_base.specs.Inode.{inode}
use Rattle.ct_base.specs.Objects.{Object}
use Rattle.ct_base.specs.Plan.{Plan, give_up_wants, plan_of}
use Rattle.ct_base.specs.Rules.{IsPlaced, names as names_apart, placed}
use Rattle.ct_base.specs.Settled.{HasPages}
use Rattle.ct_base.specs.View.{view}
use Rattle.ct_base.specs.Wants.{missing}
use Rattle.ct_frames.specs.Free.{FreePages}
use Rattle.ct_pm.specs.Images.{History}
use Rattle.ct_pm.specs.Phase.{Phase}
use Rattle.ct_pm.proofs.Phases.{phase_weaker}
use Rattle.ct_state.specs.Edits.{HasTail}
use Rattle.ct_state.specs.Forest.{OneTree}
use Rattle.ct_state.proofs.Added.{sound_forest}
use Rattle.ct_state.proofs.Addressed.{object_tail}
use Rattle.ct_state.proofs.Changes.{entered_leads}
use Rattle.ct_state.proofs.Removes.{rmdired, unlinked}
use Rattle.ct_state.proofs.Resolve.{leads_once}
use Rattle.ct_tree.specs.Checks.{names}
use Rattle.ct_tree.specs.Lands.{Lands, files}
use Rattle.ct_tree.specs.Need.{IsAt, NeedsRoomIn}
use Rattle.ct_tree.specs.Runs.{MakesNode}
use Rattle.ct_tree.specs.Step.{refusal}
use Rattle.ct_tree.specs.Tree.{Tree}
use Rattle.ct_commit.proofs.Landed.{lands_on}
use Rattle.ct_call.proofs.Pairs.{least_pairs}
use Rattle.ct_call.proofs.Spaced.{only_need}
use Rattle.ct_call.specs.Answers.{HasOnlyPlan, LacksInode}
use Rattle.ct_call.specs.Calls.{IsChange, StandsFor, after, most_pairs}
use Rattle.ct_commit.specs.Rest.{IsAtRest}
use Rattle.ct_call.specs.Placed.{EntersAt, Places}
use Rattle.ct_call.specs.Plans.{IsGrowth, Plans, level_of}
use Rattle.ct_call.specs.declared.plan.CallPlan.{CallPlan}
use Rattle.ct_call.specs.declared.plan.Growth.TheVariants.{Stays}
use Rattle.ct_find.specs.declared.kind.Kind.{Kind}
use Rattle.ct_find.specs.declared.kind.Kind.TheVariants.{File as file, Directory as directory}
use Rattle.ct_find.specs.Entries.{IsEntryAt, IsLeaf}
use Rattle.ct_find.specs.Kinds.{leave_op}
use Rattle.ct_remove.specs.Removed.{RemovedOrNot, removed}
use Rattle.ct_find.specs.declared.entry.Entry.{Entry}
use Rattle.ct_remove.proofs.Asked.{dir_object, object_live}
use Rattle.ct_remove.proofs.Whole.{rest_asked}

pub makes_none : (kind : Kind) (path : List ℕ) → MakesNode (leave_op kind path) → ⊥
makes_none file path made = made
makes_none directory path made = made

pub lacks_none : (w : List ℕ) (kind : Kind) (path : List ℕ) → ¬ LacksInode w (leave_op kind path)
lacks_none w kind path lacks = makes_none kind path lacks.0

pub changes : (kind : Kind) (path : List ℕ) → IsChange (leave_op kind path)
changes file path = tt
changes directory path = tt

-- the plan by its definition
abbrev pub plan_for : List ℕ → ℕ → Plan
plan_for w number = plan_of (give_up_wants (inode (view w) number))

no_growth : (plan : Plan) (i : Inode) {level : ℕ} → plan ≡ plan_of (give_up_wants i) → plan.growth ≡ Some level → ⊥
no_growth plan i {level = level} is grows = let both : None ≡ Some level = ap (λ (p : Plan). p.growth) (sym is) ∙ grows in absurd (cc)

module _ {w path : List ℕ} {e : Entry} (rest : IsAtRest w) (there : IsEntryAt w path e) where
  is_at : IsAt w path e.number
  is_at = subst (λ ns. Rattle.ct_base.specs.Named.Leads (files w) 1 ns e.number) (sym there.ends) (entered_leads there.entered)

  one_object : (i : ℕ) → IsAt w path i → i ≡ e.number
  one_object i at = leads_once (files w) (rest.sound names_apart) 1 i e.number (names path) at is_at

  pub only_plan : (kind : Kind) → HasOnlyPlan w (leave_op kind path) (plan_for w e.number)
  only_plan file = record {
    has = (e.number, is_at, refl);
    only = λ other has. has.2 ∙ ap (λ i. plan_for w i) (one_object has.0 has.1);
    object = λ level goes. absurd (no_growth (plan_for w e.number) (inode (view w) e.number) refl goes);
  }
  only_plan directory = record {
    has = (e.number, is_at, refl);
    only = λ other has. has.2 ∙ ap (λ i. plan_for w i) (one_object has.0 has.1);
    object = λ level goes. absurd (no_growth (plan_for w e.number) (inode (view w) e.number) refl goes);
  }

  -- the plan that is made is this one
  pub plans : {made : CallPlan} {d : Inode} → made.growth ≡ Stays → made.wants ≡ give_up_wants d → d ≡ inode (view w) e.number → Plans w (plan_for w e.number) made
  plans {made} {d} stays wants is = record {
    growth = ap level_of (sym stays);
    part = subst (IsGrowth w) (sym stays) tt;
    need = λ opens. ap (missing w) (wants ∙ ap give_up_wants is);
  }

  no_room : (kind : Kind) (i : ℕ) → NeedsRoomIn w (leave_op kind path) i → ⊥
  no_room file i needs = needs
  no_room directory i needs = needs

  enters_none : (new : List ℕ) (kind : Kind) → EntersAt w new (leave_op kind path)
  enters_none new file = tt
  enters_none new directory = tt

  -- nothing is entered or moved, and no page more is taken than the call needs
  pub places : (new : List ℕ) (kind : Kind) (d : Inode) (before free : FreePages) → d ≡ inode (view w) e.number → ((count : ℕ) → HasFreePages w count → count ≡ length before.free) → ((count : ℕ) → HasFreePages new count → count ≡ length free.free)
      → length before.free ≤ length free.free + missing w (give_up_wants d) → Places w new (leave_op kind path)
  places new kind d before free is once once_after taken = record {
    entry = enters_none new kind;
    moved = λ i level grows. absurd (no_room kind i grows.3);
    taken = λ b a need had has_after needs.
        let made : CallPlan = record { growth = Stays; wants = give_up_wants d; rest = give_up_wants d } in
        omega (arith, once b had, once_after a has_after, only_need (only_plan kind) (plans {made = made} refl refl is) need needs, ap (λ i. missing w (give_up_wants i)) is, taken);
  }

  -- ---- the tree

  module _ (leaf : IsLeaf (files w) e.dir e.offset e.number) where
    tail : HasTail (files w e.dir)
    tail = subst HasTail (sym (dir_object (rest_asked rest leaf))) (object_tail (view w) e.dir)

    -- the objects without this one stand for the tree after the call
    pub after_tree : (kind : Kind) (t : Tree) → StandsFor w t → refusal t (leave_op kind path) ≡ None → OneTree (removed (files w) e.dir e.offset e.number) (after t (leave_op kind path))
    after_tree file t st passes = unlinked path (sound_forest w t (omega (arith, rest.head.inodes.0)) rest.sound st.tree st.stands) there.entered tail passes
    after_tree directory t st passes = rmdired path (sound_forest w t (omega (arith, rest.head.inodes.0)) rest.sound st.tree st.stands) there.entered tail passes

    pub after_stands : {new : List ℕ} (kind : Kind) (t : Tree) → StandsFor w t → refusal t (leave_op kind path) ≡ None → files new ≡ removed (files w) e.dir e.offset e.number → StandsFor new (after t (leave_op kind path))
    after_stands kind t st passes is =
        let one = after_tree kind t st passes in
        record { tree = one.tree; stands = subst (λ fs. Rattle.ct_tree.specs.Stands.Stands fs 1 (after t (leave_op kind path))) (sym is) one.stands }

    -- and a crash lands on one tree or the other
    pub call_phase : {now : List ℕ} {from to : Option History} (kind : Kind) (t : Tree) → StandsFor w t → refusal t (leave_op kind path) ≡ None → Phase (RemovedOrNot (files w) e.dir e.offset e.number) 178 from to now
        → Phase (λ image. Lands image t ⊎ Lands image (after t (leave_op kind path))) (most_pairs (leave_op kind path)) from to now
    call_phase kind t st passes phase = phase_weaker (λ image. Lands image t ⊎ Lands image (after t (leave_op kind path))) (λ image lands. elim lands [
      | inl before ↦ inl (lands_on st.stands before)
      | inr gone ↦ inr (lands_on (after_tree kind t st passes).stands gone)
    ]) (omega (arith, least_pairs (leave_op kind path))) phase

    pub object_placed : (d : Inode) → d ≡ inode (view w) e.number → IsPlaced d
    object_placed d is = subst IsPlaced (sym is) (rest.sound placed e.number (object_live (rest_asked rest leaf)))

-- what a crash leaves has its pages
pub lands_pages : {fs : ℕ → Object} (dir offset i : ℕ) (image : List ℕ) → RemovedOrNot fs dir offset i image → HasPages image
lands_pages dir offset i image (inl lands) = let c = lands.head.count in (omega (arith, c.0), c.1)
lands_pages dir offset i image (inr lands) = let c = lands.head.count in (omega (arith, c.0), c.1)
