use Rattle.std.proofs.Common.{◌≡◌, ◌∙◌, ℕ, Some, refl, sym, ap, subst, inl, arith}
use Rattle.std.proofs.lemmas.Bool.{eq-eqb, ne_eqb}
use Rattle.ct_base.specs.Slots.{IsSlot, slot_name}
use Rattle.ct_call.proofs.Resting.{idle_phase}
use Rattle.ct_commit.proofs.Resting.{tables_agree, tables_unstaged}
use Rattle.ct_commit.specs.Rest.{IsAtRest, KeepsTables}
use Rattle.ct_call.specs.Placed.{IsMoved}
use Rattle.ct_call.specs.Plans.{level_of}
use Rattle.ct_record.specs.Seen.{device_behind}
use Rattle.ct_record.proofs.Ended.{ok_both, ok_then}
use Rattle.ct_commit.proofs.Landed.{rest_as}
use Rattle.ct_pm.specs.Device.{NothingPending}
use Rattle.ct_tree.specs.Lands.{files}
use Rattle.ct_rename.specs.Moves.{CanMove, HasTree, TurnedOrNot, moved, replaced}
use Rattle.ct_rename.specs.Renamed.{CanRename, renamed, room_dir, slot_for}
use Rattle.ct_rename.proofs.Carrying.{can_within, dir_is, slot_readable, wider, within_there}
use Rattle.ct_rename.proofs.call.carry_out.Goals as goal

pub move_at-requires-clause-can : goal.move_at-requires-clause-can
move_at-requires-clause-can g c =
    let can = subst (λ f. CanRename (g.D.Pm.words c.args.dev) f) c.in-New.is c.requires.can in
    can_within c.requires.mounted.rest c.if-entry-spot.true can.0 can.2.lawful

pub move_at-requires-clause-there : goal.move_at-requires-clause-there
move_at-requires-clause-there g c =
    let can = subst (λ f. CanRename (g.D.Pm.words c.args.dev) f) c.in-New.is c.requires.can in
    within_there c.requires.mounted.rest (g.met.D.Pm.words_fit c.args.dev) c.if-entry-spot.true can.0

pub returns-then-entry-spot-clause-mounted : goal.returns-then-entry-spot-clause-mounted
returns-then-entry-spot-clause-mounted g c =
    let now = g.D.Pm.words (device_behind c.move_at.result) in
    let K : Type 0 = KeepsTables (g.D.Pm.words c.args.dev) now in
    let L : Type 0 = NothingPending (g.D.Pm.told (device_behind c.move_at.result)) in
    ok_then (K × (IsAtRest now × L)) c.move_at.result
    (λ has. record { rest = has.1.0; unstaged = tables_unstaged has.1.0.tables has.0 c.requires.mounted.unstaged; settled = has.1.1; agrees = tables_agree has.0 c.requires.mounted.agrees })
    (ok_both K (IsAtRest now × L) c.move_at.result c.move_at.ensures.keeps (ok_both (IsAtRest now) L c.move_at.result c.move_at.ensures.rest c.move_at.ensures.settled))

pub returns-then-entry-spot-clause-phase : goal.returns-then-entry-spot-clause-phase
returns-then-entry-spot-clause-phase g c =
    let fs = files (g.D.Pm.words c.args.dev) in
    let e = c.in-New.entry in
    let spot = c.in-New.spot in
    let at : slot_for e.dir e.offset spot.dir spot.offset ≡ e.offset = rw (eq-eqb e.dir spot.dir c.if-entry-spot.true) refl in
    wider (omega arith) (ap (λ s. moved fs e.dir e.offset spot.dir s e.number spot.name.now) (sym at) ∙ sym (ap (renamed fs) c.in-New.is)) c.move_at.ensures.phase

pub returns-else-entry-spot-clause-phase : goal.returns-else-entry-spot-clause-phase
returns-else-entry-spot-clause-phase g c =
    let fs = files (g.D.Pm.words c.args.dev) in
    let e = c.in-New.entry in
    let spot = c.in-New.spot in
    let at : slot_for e.dir e.offset spot.dir spot.offset ≡ spot.offset = rw (ne_eqb e.dir spot.dir c.if-entry-spot.false) refl in
    wider (omega arith) (ap (λ s. moved fs e.dir e.offset spot.dir s e.number spot.name.now) (sym at) ∙ sym (ap (renamed fs) c.in-New.is)) c.move_there.ensures.phase

pub returns-else-entry-spot-clause-moved : goal.returns-else-entry-spot-clause-moved
returns-else-entry-spot-clause-moved g c =
    let w = g.D.Pm.words c.args.dev in
    let now = g.D.Pm.words (device_behind c.move_there.result) in
    let M : ℕ → Type 0 = λ dir. (level : ℕ) → level_of c.args.plan.now.growth ≡ Some level → IsMoved (λ v. ⊥) w now dir level in
    ok_then (M c.in-New.spot.dir) c.move_there.result (λ m. subst M (sym (ap room_dir c.in-New.is)) m) c.move_there.ensures.moved

pub returns-in-Same-clause-phase : goal.returns-in-Same-clause-phase
returns-in-Same-clause-phase g c =
    idle_phase (TurnedOrNot (files (g.D.Pm.words c.args.dev)) (renamed (files (g.D.Pm.words c.args.dev)) c.args.form.now)) c.requires.mounted (g.met.D.Pm.replays c.args.dev) (inl (rest_as c.requires.mounted.rest))

pub name_at-name-requires-clause-readable : goal.name_at-name-requires-clause-readable
name_at-name-requires-clause-readable g c =
    let can = subst (λ f. CanRename (g.D.Pm.words c.args.dev) f) c.in-Over.is c.requires.can in
    slot_readable c.requires.mounted.rest c.in-Over.there.dir can.1.slot c.get.result c.get.ensures

pub name_at-name-requires-clause-used : goal.name_at-name-requires-clause-used
name_at-name-requires-clause-used g c =
    let can = subst (λ f. CanRename (g.D.Pm.words c.args.dev) f) c.in-Over.is c.requires.can in
    subst (λ f. IsSlot f c.in-Over.there.offset) (sym (dir_is c.requires.mounted.rest c.in-Over.there.dir can.1.slot c.get.result c.get.ensures)) can.1.slot

pub replace-requires-clause-can : goal.replace-requires-clause-can
replace-requires-clause-can g c =
    let w = g.D.Pm.words c.args.dev in
    let can = subst (λ f. CanRename w f) c.in-Over.is c.requires.can in
    let e = c.in-Over.entry in
    let there = c.in-Over.there in
    let name : c.as_slice.result.now ≡ slot_name (files w there.dir) there.offset =
    c.as_slice.ensures.value ∙ c.name_at-name.ensures ∙ ap (λ f. slot_name f there.offset) (dir_is c.requires.mounted.rest c.in-Over.there.dir can.1.slot c.get.result c.get.ensures) in
    subst (λ y. CanMove w e.dir e.offset there.dir there.offset e.number y) (sym name) can.0

pub replace-requires-clause-tree : goal.replace-requires-clause-tree
replace-requires-clause-tree g c =
    let w = g.D.Pm.words c.args.dev in
    let can = subst (λ f. CanRename w f) c.in-Over.is c.requires.can in
    let e = c.in-Over.entry in
    let there = c.in-Over.there in
    let name : c.as_slice.result.now ≡ slot_name (files w there.dir) there.offset =
    c.as_slice.ensures.value ∙ c.name_at-name.ensures ∙ ap (λ f. slot_name f there.offset) (dir_is c.requires.mounted.rest c.in-Over.there.dir can.1.slot c.get.result c.get.ensures) in
    subst (λ y. HasTree (replaced (files w) e.dir e.offset there.dir there.offset e.number there.number y)) (sym name) (subst (λ f. HasTree (renamed (files w) f)) c.in-Over.is c.requires.tree)

pub returns-in-Over-clause-objects : goal.returns-in-Over-clause-objects
returns-in-Over-clause-objects g c =
    let w = g.D.Pm.words c.args.dev in
    let can = subst (λ f. CanRename w f) c.in-Over.is c.requires.can in
    let e = c.in-Over.entry in
    let there = c.in-Over.there in
    let name : c.as_slice.result.now ≡ slot_name (files w there.dir) there.offset =
    c.as_slice.ensures.value ∙ c.name_at-name.ensures ∙ ap (λ f. slot_name f there.offset) (dir_is c.requires.mounted.rest c.in-Over.there.dir can.1.slot c.get.result c.get.ensures) in
    ok_then (files (g.D.Pm.words (device_behind c.replace.result)) ≡ replaced (files w) e.dir e.offset there.dir there.offset e.number there.number c.as_slice.result.now) c.replace.result
    (λ is. is ∙ ap (λ y. replaced (files w) e.dir e.offset there.dir there.offset e.number there.number y) name ∙ sym (ap (renamed (files w)) c.in-Over.is)) c.replace.ensures.objects

pub returns-in-Over-clause-phase : goal.returns-in-Over-clause-phase
returns-in-Over-clause-phase g c =
    let w = g.D.Pm.words c.args.dev in
    let can = subst (λ f. CanRename w f) c.in-Over.is c.requires.can in
    let e = c.in-Over.entry in
    let there = c.in-Over.there in
    let name : c.as_slice.result.now ≡ slot_name (files w there.dir) there.offset =
    c.as_slice.ensures.value ∙ c.name_at-name.ensures ∙ ap (λ f. slot_name f there.offset) (dir_is c.requires.mounted.rest c.in-Over.there.dir can.1.slot c.get.result c.get.ensures) in
    wider (omega arith) (ap (λ y. replaced (files w) e.dir e.offset there.dir there.offset e.number there.number y) name ∙ sym (ap (renamed (files w)) c.in-Over.is)) c.replace.ensures.phase
