use Rattle.std.proofs.Common.{◌≡◌, ◌+◌, ◌≤◌, ℕ, false, List, Option, length, sym, subst, ◌∙◌}
use Rattle.ct_base.specs.Wants.{Want, is_wanted, missing}
use Rattle.ct_base.specs.Walk.{page_at}
use Rattle.ct_walk.specs.Has.{HasAll}
use Rattle.ct_call.specs.Mounted.{AreOwned, OffFiles}
use Rattle.ct_call.specs.Plans.{level_of}
use Rattle.ct_call.specs.Rooms.{Gives}
use Rattle.ct_call.proofs.Rooms.{room_phase}
use Rattle.ct_call.proofs.Roomed.{Planned, can_grow, made_room, mid_off, mid_owned, mid_room, mid_taken, planned}
use Rattle.ct_call.proofs.making.room.Given.{Over}
use Rattle.ct_call.proofs.making.room.Goals as goal

pub grow-requires-clause-can : goal.grow-requires-clause-can
grow-requires-clause-can g c level goes = can_grow (planned c.requires.mounted.rest c.requires.mounted.unstaged c.requires.fits c.requires.asks) level (sym c.level-level.ensures ∙ goes)

module _ (g : Over) (c : goal.After-as_slice g) where
  abbrev mid : List ℕ
  mid = g.D.Pm.words c.in-Ok.dev

  plan : Planned (g.D.Pm.words c.args.dev) c.args.frames.now c.args.object (level_of c.args.plan.now.growth) c.args.plan.now.wants c.args.plan.now.rest
  plan = planned c.requires.mounted.rest c.requires.mounted.unstaged c.requires.fits c.requires.asks

  gave : Gives (g.D.Pm.words c.args.dev) (g.D.Pm.words c.in-Ok.dev) c.args.frames.now c.grow.new.frames c.args.object (level_of c.args.plan.now.growth)
  gave = subst (λ (o : Option ℕ). Gives (g.D.Pm.words c.args.dev) (g.D.Pm.words c.in-Ok.dev) c.args.frames.now c.grow.new.frames c.args.object o) c.level-level.ensures c.in-Ok.ensures.gives

pub make_pages-requires-clause-owned : goal.make_pages-requires-clause-owned
make_pages-requires-clause-owned g c = subst (AreOwned (mid g c)) (sym c.as_slice.ensures) (mid_owned (plan g c) (mid g c) c.grow.new.frames (gave g c))

pub make_pages-requires-clause-off : goal.make_pages-requires-clause-off
make_pages-requires-clause-off g c = subst (OffFiles (mid g c)) (sym c.as_slice.ensures) (mid_off (plan g c) (mid g c) c.grow.new.frames (gave g c) c.in-Ok.ensures.mounted.rest.sound)

pub make_pages-requires-clause-room : goal.make_pages-requires-clause-room
make_pages-requires-clause-room g c =
    subst (λ (l : List Want). missing (mid g c) l ≤ length c.grow.new.frames.free) (sym c.as_slice.ensures) (mid_room (plan g c) (mid g c) c.grow.new.frames (gave g c))

pub returns-in-Ok-make_pages-clause-room : goal.returns-in-Ok-make_pages-clause-room
returns-in-Ok-make_pages-clause-room g c =
    let w1 = g.D.Pm.words c.in-Ok.dev in
    let w2 = g.D.Pm.words c.make_pages.new.dev in
    made_room (planned c.requires.mounted.rest c.requires.mounted.unstaged c.requires.fits c.requires.asks) w1 c.grow.new.frames
    (subst (λ (o : Option ℕ). Gives (g.D.Pm.words c.args.dev) (g.D.Pm.words c.in-Ok.dev) c.args.frames.now c.grow.new.frames c.args.object o) c.level-level.ensures c.in-Ok.ensures.gives)
    c.make_pages.ensures.alike
    (subst (λ (l : List Want). (d x : ℕ) → d ≤ 4 → is_wanted l d x ≡ false → page_at w2 d x ≡ page_at w1 d x) c.as_slice.ensures c.make_pages.ensures.cells)
    (subst (HasAll w2) c.as_slice.ensures c.in-Ok-make_pages.ensures.there) c.make_pages.ensures.rest c.in-Ok.ensures.files

pub returns-in-Ok-make_pages-clause-taken : goal.returns-in-Ok-make_pages-clause-taken
returns-in-Ok-make_pages-clause-taken g c =
    let w1 = g.D.Pm.words c.in-Ok.dev in
    mid_taken (planned c.requires.mounted.rest c.requires.mounted.unstaged c.requires.fits c.requires.asks) w1 c.grow.new.frames
    (subst (λ (o : Option ℕ). Gives (g.D.Pm.words c.args.dev) (g.D.Pm.words c.in-Ok.dev) c.args.frames.now c.grow.new.frames c.args.object o) c.level-level.ensures c.in-Ok.ensures.gives)
    c.make_pages.new.frames
    (subst (λ (l : List Want). length c.make_pages.new.frames.free + missing w1 l ≡ length c.grow.new.frames.free) c.as_slice.ensures c.in-Ok-make_pages.ensures.taken)

pub returns-in-Ok-make_pages-clause-phase : goal.returns-in-Ok-make_pages-clause-phase
returns-in-Ok-make_pages-clause-phase g c = room_phase (g.D.Pm.words c.args.dev) (g.D.Pm.words c.in-Ok.dev) c.in-Ok.ensures.files c.in-Ok.ensures.phase c.make_pages.ensures.phase

pub returns-in-Err-make_pages-clause-phase : goal.returns-in-Err-make_pages-clause-phase
returns-in-Err-make_pages-clause-phase g c = room_phase (g.D.Pm.words c.args.dev) (g.D.Pm.words c.in-Ok.dev) c.in-Ok.ensures.files c.in-Ok.ensures.phase c.make_pages.ensures.phase
