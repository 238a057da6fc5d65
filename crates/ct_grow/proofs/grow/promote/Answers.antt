use Rattle.std.proofs.Common.{◌≡◌, ◌⊎◌, ℕ, List, refl, sym, ap, subst, ◌∙◌, arith}
use Rattle.std.specs.Prelude.{OnOk}
use Rattle.ct_base.specs.declared.inode.Inode.{Inode}
use Rattle.ct_base.specs.Inode.{inode, IsPart, Partition, part, live_parts}
use Rattle.ct_base.specs.Plan.{next_part}
use Rattle.ct_base.specs.View.{view, inode_count}
use Rattle.ct_base.specs.Settled.{IsShut}
use Rattle.ct_frames.specs.Agrees.{Agrees}
use Rattle.ct_pm.specs.Device.{LeavesOnly}
use Rattle.ct_base.specs.State.{SameState}
use Rattle.ct_record.specs.Seen.{device_behind}
use Rattle.ct_record.proofs.Drafts.{ok_of}
use Rattle.ct_record.proofs.Ended.{ok_both, ok_then}
use Rattle.ct_grow.specs.Drafted.{Moves}
use Rattle.ct_grow.specs.Grown.{CellsMoved, IsReady, Promoted}
use Rattle.ct_grow.proofs.Celled.{agrees_now, cells_moved}
use Rattle.ct_grow.proofs.Moved.{Grew}
use Rattle.ct_grow.proofs.Promoting.{promoted, ready_now}
use Rattle.ct_grow.proofs.Readied.{Calls, may_move, grew, needed_at, stands_now, own_part}
use Rattle.ct_grow.proofs.Telling.{asked_phase, moved_last, moved_phase, moving_spares}
use Rattle.ct_grow.proofs.grow.promote.Given.{Over}
use Rattle.ct_grow.proofs.grow.promote.Goals as goal

pub first_base-base-requires-clause-some : goal.first_base-base-requires-clause-some
first_base-base-requires-clause-some g c =
    let img = g.D.Pm.words c.args.dev in
    (live_parts (view img) (inode_count img), stands_now c.requires.can.ready, c.requires.can.some)

pub growth_wants-wants-requires-clause-old : goal.growth_wants-wants-requires-clause-old
growth_wants-wants-requires-clause-old g c some =
    subst (λ (f : Inode). IsPart (part f)) (sym c.get-old.ensures) (own_part c.requires.can (λ is. some (ap (λ (f : Inode). f.level) c.get-old.ensures ∙ is)))

pub ensure_all-requires-clause-room : goal.ensure_all-requires-clause-room
ensure_all-requires-clause-room g c =
    let img = g.D.Pm.words c.args.dev in
    let next = c.first_base-base.ensures.first (live_parts (view img) (inode_count img)) (stands_now c.requires.can.ready) in
    omega (arith, needed_at (g.D.Pm.words c.args.dev) c.args.inode c.args.level c.get-old.result c.as_slice.result.now (record { base = c.first_base-base.result; level = c.args.level }) c.get-old.ensures next (c.as_slice.ensures ∙ c.growth_wants-wants.ensures.wants), c.requires.room)

pub move_now-requires-clause-can : goal.move_now-requires-clause-can
move_now-requires-clause-can g c =
    let calls : Calls (g.D.Pm.words c.args.dev) (g.D.Pm.words c.ensure_all.new.dev) c.args.frames.now c.ensure_all.new.frames c.args.inode c.args.level c.get-old.result c.as_slice.result.now (record { base = c.first_base-base.result; level = c.args.level }) = record {
      can = c.requires.can;
      is_part = c.first_base-base.ensures.part;
      at_level = refl;
      first = c.first_base-base.ensures.first (live_parts (view (g.D.Pm.words c.args.dev)) (inode_count (g.D.Pm.words c.args.dev))) (stands_now c.requires.can.ready);
      was = c.get-old.ensures;
      asked = c.as_slice.ensures ∙ c.growth_wants-wants.ensures.wants;
      grown = c.in-Ok.ensures.extends.grown;
      all = c.in-Ok.ensures.there;
    } in
    may_move calls

pub move_now-requires-clause-spares : goal.move_now-requires-clause-spares
move_now-requires-clause-spares g c =
    let calls : Calls (g.D.Pm.words c.args.dev) (g.D.Pm.words c.ensure_all.new.dev) c.args.frames.now c.ensure_all.new.frames c.args.inode c.args.level c.get-old.result c.as_slice.result.now (record { base = c.first_base-base.result; level = c.args.level }) = record {
      can = c.requires.can;
      is_part = c.first_base-base.ensures.part;
      at_level = refl;
      first = c.first_base-base.ensures.first (live_parts (view (g.D.Pm.words c.args.dev)) (inode_count (g.D.Pm.words c.args.dev))) (stands_now c.requires.can.ready);
      was = c.get-old.ensures;
      asked = c.as_slice.ensures ∙ c.growth_wants-wants.ensures.wants;
      grown = c.in-Ok.ensures.extends.grown;
      all = c.in-Ok.ensures.there;
    } in
    moving_spares calls

module _ (g : Over) (c : goal.After-move_now g) where
  calls : Calls (g.D.Pm.words c.args.dev) (g.D.Pm.words c.ensure_all.new.dev) c.args.frames.now c.ensure_all.new.frames c.args.inode c.args.level c.get-old.result c.as_slice.result.now (record { base = c.first_base-base.result; level = c.args.level })
  calls = record {
    can = c.requires.can;
    is_part = c.first_base-base.ensures.part;
    at_level = refl;
    first = c.first_base-base.ensures.first (live_parts (view (g.D.Pm.words c.args.dev)) (inode_count (g.D.Pm.words c.args.dev))) (stands_now c.requires.can.ready);
    was = c.get-old.ensures;
    asked = c.as_slice.ensures ∙ c.growth_wants-wants.ensures.wants;
    grown = c.in-Ok.ensures.extends.grown;
    all = c.in-Ok.ensures.there;
  }

  next : next_part (view (g.D.Pm.words c.args.dev)) (inode_count (g.D.Pm.words c.args.dev)) c.args.level ≡ record { base = c.first_base-base.result; level = c.args.level }
  next = c.first_base-base.ensures.first (live_parts (view (g.D.Pm.words c.args.dev)) (inode_count (g.D.Pm.words c.args.dev))) (stands_now c.requires.can.ready)

  abbrev w2 : List ℕ
  w2 = g.D.Pm.words (device_behind c.move_now.result)

  -- where the object has moved
  when : (Q : Type 0) → (Grew (g.D.Pm.words c.args.dev) (g.D.Pm.words c.ensure_all.new.dev) w2 c.args.frames.now c.ensure_all.new.frames c.args.inode (record { base = c.first_base-base.result; level = c.args.level }) → Q) → OnOk c.move_now.result Q
  when Q then =
      ok_then (Moves (g.D.Pm.words c.ensure_all.new.dev) w2 c.args.inode c.get-old.result (record { base = c.first_base-base.result; level = c.args.level })) c.move_now.result (λ m. then (grew calls m)) c.move_now.ensures.moves

  is_ready : OnOk c.move_now.result (IsReady w2)
  is_ready = ok_then ((IsShut w2 → IsReady w2) × IsShut w2) c.move_now.result (λ has. has.0 has.1) (ok_both (IsShut w2 → IsReady w2) (IsShut w2) c.move_now.result (when (IsShut w2 → IsReady w2) (λ s shut. ready_now s shut)) c.move_now.ensures.shut)

pub returns-clause-promoted : goal.returns-clause-promoted
returns-clause-promoted g c =
    when g c (Promoted (g.D.Pm.words c.args.dev) (w2 g c) c.args.inode (next_part (view (g.D.Pm.words c.args.dev)) (inode_count (g.D.Pm.words c.args.dev)) c.args.level))
    (λ s. subst (λ (p : Partition). Promoted (g.D.Pm.words c.args.dev) (w2 g c) c.args.inode p) (sym (next g c)) (promoted s))

pub returns-clause-cells : goal.returns-clause-cells
returns-clause-cells g c =
    let moved = λ (p : Partition). CellsMoved (g.D.Pm.words c.args.dev) (w2 g c) (inode (view (g.D.Pm.words c.args.dev)) c.args.inode) p in
    when g c (moved (next_part (view (g.D.Pm.words c.args.dev)) (inode_count (g.D.Pm.words c.args.dev)) c.args.level)) (λ s. subst moved (sym (next g c)) (cells_moved s))

pub returns-clause-ready : goal.returns-clause-ready
returns-clause-ready g c = is_ready g c

pub returns-clause-agrees : goal.returns-clause-agrees
returns-clause-agrees g c = when g c (Agrees (w2 g c) c.ensure_all.new.frames) (λ s. agrees_now s c.in-Ok.ensures.agrees)

pub returns-clause-taken : goal.returns-clause-taken
returns-clause-taken g c =
    ok_of c.move_now.result
    (omega (arith, c.in-Ok.ensures.taken, needed_at (g.D.Pm.words c.args.dev) c.args.inode c.args.level c.get-old.result c.as_slice.result.now (record { base = c.first_base-base.result; level = c.args.level }) c.get-old.ensures (next g c) (c.as_slice.ensures ∙ c.growth_wants-wants.ensures.wants)))

pub returns-clause-phase : goal.returns-clause-phase
returns-clause-phase g c =
    moved_phase (calls g c)
    (asked_phase (g.D.Pm.words c.args.dev) c.args.inode c.args.level c.get-old.result c.as_slice.result.now (record { base = c.first_base-base.result; level = c.args.level }) c.requires.can.ready c.first_base-base.ensures.part
    (c.first_base-base.ensures.first (live_parts (view (g.D.Pm.words c.args.dev)) (inode_count (g.D.Pm.words c.args.dev))) (stands_now c.requires.can.ready)) c.get-old.ensures (c.as_slice.ensures ∙ c.growth_wants-wants.ensures.wants) c.requires.agrees c.requires.settled c.ensure_all.ensures.extends)
    c.move_now.ensures.phase

-- the device failed while pages were made
pub returns-in-Err-clause-phase : goal.returns-in-Err-clause-phase
returns-in-Err-clause-phase g c =
    asked_phase (g.D.Pm.words c.args.dev) c.args.inode c.args.level c.get-old.result c.as_slice.result.now (record { base = c.first_base-base.result; level = c.args.level }) c.requires.can.ready c.first_base-base.ensures.part
    (c.first_base-base.ensures.first (live_parts (view (g.D.Pm.words c.args.dev)) (inode_count (g.D.Pm.words c.args.dev))) (stands_now c.requires.can.ready)) c.get-old.ensures (c.as_slice.ensures ∙ c.growth_wants-wants.ensures.wants) c.requires.agrees c.requires.settled c.ensure_all.ensures.extends

pub returns-clause-reads_after : goal.returns-clause-reads_after
returns-clause-reads_after g c =
    let after = LeavesOnly (g.D.Pm.told c.ensure_all.new.dev) (g.D.Pm.told (device_behind c.move_now.result)) (λ image. SameState (g.D.Pm.words c.ensure_all.new.dev) image ⊎ SameState (w2 g c) image) in
    ok_then after c.move_now.result (λ last. moved_last (calls g c) (c.ensure_all.ensures.extends.images c.requires.settled) last) c.move_now.ensures.reads_after
