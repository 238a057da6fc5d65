-- What each form of a rename asks for and answers, as a call.
use Rattle.std.proofs.Common.{◌≡◌, ◌≢◌, ℕ, ◌+◌, ◌/◌, ◌*◌, ◌≤◌, ◌++◌, true, false, List, [], ◌∷◌, Ok, Err, Some, None, refl, sym, ap, subst, ◌∙◌, inl, inr, arith}
use Rattle.std.specs.Prelude.{◌==◌, if◌then◌else◌, nat_lt}
use Rattle.std.specs.Str.{bytes_eq}
use Rattle.std.proofs.lemmas.Bool.{eq-eqb, ne_eqb}
use Rattle.std.proofs.lemmas.Slice.Eq.{bytes_eq-Decides}
use Rattle.ct_base.specs.Inode.{Partition, inode}
use Rattle.ct_base.specs.Named.{Leads}
use Rattle.ct_base.specs.Plan.{Plan, counted, entry_plan, give_up_wants, no_plan, page_want, plan_of}
use Rattle.ct_base.specs.Rules.{names as names_apart, slots}
use Rattle.ct_base.specs.Slots.{free_slot, slot_name}
use Rattle.ct_base.specs.View.{view, inode_count}
use Rattle.ct_base.specs.Walk.{page_at}
use Rattle.ct_base.specs.Wants.{Want, missing}
use Rattle.ct_call.specs.Answers.{HasOnlyPlan, LacksInode}
use Rattle.ct_call.specs.Calls.{StandsFor}
use Rattle.ct_commit.specs.Rest.{IsAtRest}
use Rattle.ct_call.specs.Plans.{IsGrowth, Plans, level_of}
use Rattle.ct_call.specs.declared.plan.CallPlan.{CallPlan}
use Rattle.ct_call.specs.declared.plan.Growth.TheVariants.{Stays}
use Rattle.ct_enter.proofs.EntryRoom.{plans}
use Rattle.ct_enter.proofs.Places.{can_plan}
use Rattle.ct_enter.specs.Plans.{slot_growth}
use Rattle.ct_inode.proofs.Loaded.{kind_none}
use Rattle.ct_state.proofs.Added.{sound_forest}
use Rattle.ct_state.proofs.Changes.{entered_leads}
use Rattle.ct_state.proofs.Followed.{followed, leads_resolve}
use Rattle.ct_state.proofs.Landing.{sound_stands}
use Rattle.ct_state.proofs.Renames.{leads_same}
use Rattle.ct_state.proofs.Resolve.{leads_once}
use Rattle.ct_tree.proofs.Again.{names_differ}
use Rattle.ct_tree.specs.Checks.{names}
use Rattle.ct_tree.specs.Lands.{files}
use Rattle.ct_tree.specs.Need.{IsAt}
use Rattle.ct_tree.specs.Resolve.{last_name, parent}
use Rattle.ct_tree.specs.Step.{rename}
use Rattle.ct_remove.proofs.Asked.{dir_kind, dir_owns, dir_room, slot_ends}
use Rattle.ct_find.proofs.Fitting.{entry_live}
use Rattle.ct_remove.proofs.Whole.{rest_asked}
use Rattle.ct_find.specs.Entries.{IsEntryAt}
use Rattle.ct_find.specs.declared.entry.Entry.{Entry}
use Rattle.ct_rename.specs.Forms.{IsForm}
use Rattle.ct_rename.specs.Renamed.{CanRename, IsPlanFor}
use Rattle.ct_rename.specs.declared.find.Form.{Form}
use Rattle.ct_rename.specs.declared.find.Form.TheVariants.{Same, New, Over}
use Rattle.ct_rename.proofs.Checking.{bad_none, good_names}
use Rattle.ct_rename.proofs.Planning.{grown_growth, grown_there}

-- the plan of a form by its definition
abbrev pub plan_by : List ℕ → Form → Plan
plan_by w Same = no_plan
plan_by w (New e spot) = if e.dir == spot.dir then no_plan else entry_plan (view w) (inode_count w) spot.inode spot.offset []
plan_by w (Over e there gone) = plan_of (give_up_wants gone)

pub lacks_none : (w path to : List ℕ) → ¬ LacksInode w (rename path to)
lacks_none w path to lacks = lacks.0

pub both_ways : {b : Rattle.std.specs.Prelude.Bool} → b ≡ true → b ≡ false → ⊥
both_ways on off = absurd (cc)

pub no_level : {level : ℕ} → None ≡ Some level → ⊥
no_level is = absurd (cc)

module _ {w : List ℕ} (rest : IsAtRest w) where
  entry_at : {p : List ℕ} {e : Entry} → IsEntryAt w p e → IsAt w p e.number
  entry_at {e = e} there = subst (λ ns. Leads (files w) 1 ns e.number) (sym there.ends) (entered_leads there.entered)

  once : (xs : List (List ℕ)) (i k : ℕ) → Leads (files w) 1 xs i → Leads (files w) 1 xs k → i ≡ k
  once xs i k a b = leads_once (files w) (rest.sound names_apart) 1 i k xs a b

  idle_plans : (made : CallPlan) → made.growth ≡ Stays → made.wants ≡ [] → Plans w no_plan made
  idle_plans made stays wants = record {
    growth = ap level_of (sym stays);
    part = subst (IsGrowth w) (sym stays) tt;
    need = λ opens. ap (missing w) wants;
  }

module _ {w : List ℕ} (path to : List ℕ) (rest : IsAtRest w) where
  -- two entries of different paths are not one
  apart : {e there : Entry} → bytes_eq path to ≡ false → IsEntryAt w path e → IsEntryAt w to there → e.dir ≡ there.dir → e.offset ≢ there.offset
  apart {e} {there} differ at_path at_to here at =
      let s = sound_stands w (omega (arith, rest.head.inodes.0)) rest.sound in
      let f = sound_forest w s.0 (omega (arith, rest.head.inodes.0)) rest.sound s.1 s.2 in
      let parents : parent (names path) ≡ parent (names to) = leads_same f.are e.dir (parent (names path)) (parent (names to)) at_path.entered.leads (subst (Leads (files w) 1 (parent (names to))) (sym here) at_to.entered.leads) in
      let lasts : last_name (names path) ≡ last_name (names to) = sym at_path.entered.name ∙ ap (λ n. slot_name (files w n) e.offset) here ∙ ap (slot_name (files w there.dir)) at ∙ at_to.entered.name in
      let all : names path ≡ names to = at_path.ends ∙ ap (λ ns. ns ++ (last_name (names path) ∷ [])) parents ∙ ap (λ z. parent (names to) ++ (z ∷ [])) lasts ∙ sym at_to.ends in
      names_differ path to (bad_none path (good_names path at_path.good).1) (bad_none to (good_names to at_to.good).1)
      (λ is. let same : bytes_eq path to ≡ true = (bytes_eq-Decides path to).1 is in both_ways same differ) all

  pub form_can : (form : Form) → IsForm w path to form → CanRename w form
  form_can Same is = tt
  form_can (New e spot) is =
      let live = (entry_live rest is.1).number in (
        record { slot = is.1.entered.slot; child = is.1.entered.child; few = omega (arith, live.to, rest.head.inodes.1); some = live.from },
        is.2.next,
        record { lawful = is.2.lawful; fresh = is.2.fresh },
      )
  form_can (Over e there gone) is =
      let live = (entry_live rest is.1).number in
      let a = rest_asked rest is.3 in
      let ends = slot_ends a in (
        record {
          rest = rest;
          slot = is.1.entered.slot;
          child = is.1.entered.child;
          owns = dir_owns a;
          kind = dir_kind a;
          aligned = is.3.slot.aligned;
          low = omega (arith, ends);
          fits = omega (arith, ends, (dir_room a).size);
          few = omega (arith, live.to, rest.head.inodes.1);
          some = live.from;
          lawful = (rest.sound slots there.dir there.offset is.3.slot).name;
        },
        is.3,
        apart is.0 is.1 is.2,
        is.4,
      )

  -- ---- the plan

  nothing_at : (form : Form) (e : Entry) → ((t : Rattle.ct_tree.specs.Tree.Tree) → StandsFor w t → (r : Rattle.ct_tree.specs.declared.call.Refusal.Refusal) × (Rattle.ct_tree.specs.Checks.at t to ≡ Err r)) → (i : ℕ) → IsAt w to i → ⊥
  nothing_at form e none i at =
      let s = sound_stands w (omega (arith, rest.head.inodes.0)) rest.sound in
      let way = followed (files w) (rest.sound names_apart) 1 i (names to) s.0 s.1 s.2 at in
      let no' = none s.0 (record { tree = s.1; stands = s.2 }) in
      let both : Ok way.node ≡ Err no'.0 = sym (leads_resolve s.0 (names to) way.node way.to) ∙ no'.1 in
      absurd (cc)

  pub only_plan : (form : Form) → IsForm w path to form → HasOnlyPlan w (rename path to) (plan_by w form)
  only_plan Same is = record {
    has = inl (is, refl);
    only = λ other has. elim has [ inl same ↦ same.1 | inr differ ↦ absurd (both_ways is differ.0) ];
    object = λ level goes. absurd (no_level goes);
  }
  only_plan (New e spot) is =
      let none = nothing_at (New e spot) e is.3 in
      let plan_is : (if e.dir == spot.dir then no_plan else entry_plan (view w) (inode_count w) (inode (view w) spot.dir) (free_slot (files w spot.dir)) []) ≡ plan_by w (New e spot) =
      ap (λ g. if e.dir == spot.dir then no_plan else entry_plan (view w) (inode_count w) g (free_slot (files w spot.dir)) []) is.2.next.is
      ∙ ap (λ o. if e.dir == spot.dir then no_plan else entry_plan (view w) (inode_count w) spot.inode o []) (sym is.2.next.first) in
      record {
        has = inr (is.0, inr (none, (e.dir, spot.dir, is.1.entered.leads, is.2.parent, sym plan_is)));
        only = λ other has. elim has [
          | inl same ↦ absurd (both_ways same.0 is.0)
          | inr differ ↦ elim differ.1 [
            | inl removal ↦ absurd (none removal.0 removal.1)
            | inr new ↦
                let p = new.1 in
                p.4
                ∙ ap (λ i. if i == p.1 then no_plan else entry_plan (view w) (inode_count w) (inode (view w) p.1) (free_slot (files w p.1)) []) (once rest (parent (names path)) p.0 e.dir p.2 is.1.entered.leads)
                ∙ ap (λ k. if e.dir == k then no_plan else entry_plan (view w) (inode_count w) (inode (view w) k) (free_slot (files w k)) []) (once rest (parent (names to)) p.1 spot.dir p.3 is.2.parent)
                ∙ plan_is
          ]
        ];
        object = λ level goes. (spot.dir, is.2.parent);
      }
  only_plan (Over e there gone) is =
      let at = entry_at rest is.2 in
      let plan_is : plan_of (give_up_wants (inode (view w) there.number)) ≡ plan_of (give_up_wants gone) = ap (λ i. plan_of (give_up_wants i)) (sym is.4) in
      record {
        has = inr (is.0, inl (there.number, at, sym plan_is));
        only = λ other has. elim has [
          | inl same ↦ absurd (both_ways same.0 is.0)
          | inr differ ↦ elim differ.1 [
            | inl removal ↦ removal.2 ∙ ap (λ i. plan_of (give_up_wants (inode (view w) i))) (once rest (names to) removal.0 there.number removal.1 at) ∙ plan_is
            | inr new ↦ absurd (new.0 there.number at)
          ]
        ];
        object = λ level goes. absurd (no_level goes);
      }

  pub form_plans : (form : Form) → IsForm w path to form → (made : CallPlan) → IsPlanFor w form made → Plans w (plan_by w form) made
  form_plans Same is made plan = idle_plans rest made plan.0 plan.1
  form_plans (New e spot) is made (inl here) =
      subst (λ p. Plans w p made) (sym (let chosen : plan_by w (New e spot) ≡ no_plan = rw (eq-eqb e.dir spot.dir here.0) refl in chosen)) (idle_plans rest made here.1.0 here.1.1)
  form_plans (New e spot) is made (inr away) =
      let live = entry_live rest is.1 in
      let few : e.number ≤ 1048576 = omega (arith, live.number.to, rest.head.inodes.1) in
      let page : 64 * e.number / 4096 ≡ e.number / 64 = omega arith in
      let there : page_at w 4 (64 * e.number / 4096) ≢ 0 = λ z. live.used (kind_none w e.number few (ap (page_at w 4) (sym page) ∙ z)) in
      let entry = plans (can_plan rest is.2.next) e.number away.1 in
      let f = spot.inode in
      let o = spot.offset in
      let X : Partition → Want = λ new. counted f new (page_want (new.base + o)) in
      let chosen : plan_by w (New e spot) ≡ entry_plan (view w) (inode_count w) spot.inode spot.offset [] = rw (ne_eqb e.dir spot.dir away.0) refl in
      subst (λ p. Plans w p made) (sym chosen) (record {
        growth = grown_growth (view w) (inode_count w) f (slot_growth f o) (λ new. X new ∷ []) ∙ sym away.1.growth;
        part = entry.part;
        need = λ opens. entry.need opens ∙ grown_there w f (slot_growth f o) X (64 * e.number) there;
      })
  form_plans (Over e there gone) is made plan = record {
    growth = ap level_of (sym plan.0);
    part = subst (IsGrowth w) (sym plan.0) tt;
    need = λ opens. ap (missing w) plan.1;
  }
