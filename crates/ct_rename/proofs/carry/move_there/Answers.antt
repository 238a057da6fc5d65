use Rattle.std.proofs.Common.{◌∙◌, ℕ, sym, ap, subst, arith}
use Rattle.ct_base.specs.Objects.{Object}
use Rattle.ct_base.specs.Slots.{IsSlot, slot_inode}
use Rattle.ct_commit.proofs.Resting.{tables_agree, tables_unstaged}
use Rattle.ct_enter.proofs.EntryRoom.{asks, here_next, here_plan, spot_there}
use Rattle.ct_enter.proofs.Placing.{moved_on}
use Rattle.ct_rename.specs.Moves.{HasTree, moved}
use Rattle.ct_rename.proofs.Ending.{only_room, room_phase}
use Rattle.ct_rename.proofs.carry.move_there.Goals as goal

pub room-requires-clause-asks : goal.room-requires-clause-asks
room-requires-clause-asks g c = asks c.requires.mounted.rest (here_next c.requires.next) c.requires.can.few (here_plan c.requires.next c.requires.plan) c.requires.fits.opens

pub move_at-requires-clause-can : goal.move_at-requires-clause-can
move_at-requires-clause-can g c =
    let s = spot_there c.requires.mounted.rest (here_next c.requires.next) c.requires.can.few (here_plan c.requires.next c.requires.plan) c.requires.fits.opens c.in-Ok.ensures.room c.args.spot.now.name.now c.requires.fresh in
    let same = c.in-Ok.ensures.room.files in
    record {
      rest = c.in-Ok.ensures.room.rest;
      slot = subst (λ (fs : ℕ → Object). IsSlot (fs c.args.entry.dir) c.args.entry.offset) (sym same) c.requires.can.slot;
      child = ap (λ (fs : ℕ → Object). slot_inode (fs c.args.entry.dir) c.args.entry.offset) same ∙ c.requires.can.child;
      owns = s.owns;
      kind = s.kind;
      aligned = s.aligned;
      low = s.low;
      fits = s.fits;
      few = c.requires.can.few;
      some = c.requires.can.some;
      lawful = s.lawful;
    }

pub move_at-requires-clause-there : goal.move_at-requires-clause-there
move_at-requires-clause-there g c = (spot_there c.requires.mounted.rest (here_next c.requires.next) c.requires.can.few (here_plan c.requires.next c.requires.plan) c.requires.fits.opens c.in-Ok.ensures.room c.args.spot.now.name.now c.requires.fresh).there

pub move_at-requires-clause-tree : goal.move_at-requires-clause-tree
move_at-requires-clause-tree g c = subst (λ (fs : ℕ → Object). HasTree (moved fs c.args.entry.dir c.args.entry.offset c.args.spot.now.dir c.args.spot.now.offset c.args.entry.number c.args.spot.now.name.now)) (sym c.in-Ok.ensures.room.files) c.requires.tree

pub returns-in-Err-clause-phase : goal.returns-in-Err-clause-phase
returns-in-Err-clause-phase g c = only_room c.in-Err.ensures.phase

pub returns-in-Ok-move_at-clause-objects : goal.returns-in-Ok-move_at-clause-objects
returns-in-Ok-move_at-clause-objects g c =
    c.in-Ok-move_at.ensures.objects ∙ ap (λ (fs : ℕ → Object). moved fs c.args.entry.dir c.args.entry.offset c.args.spot.now.dir c.args.spot.now.offset c.args.entry.number c.args.spot.now.name.now) c.in-Ok.ensures.room.files

pub returns-in-Ok-move_at-clause-counted : goal.returns-in-Ok-move_at-clause-counted
returns-in-Ok-move_at-clause-counted g c = c.in-Ok-move_at.ensures.keeps.head 3 (omega arith) ∙ c.in-Ok.ensures.room.counted

pub returns-in-Ok-move_at-clause-moved : goal.returns-in-Ok-move_at-clause-moved
returns-in-Ok-move_at-clause-moved g c level goes = moved_on (c.in-Ok.ensures.room.moved level goes) c.in-Ok-move_at.ensures.keeps c.in-Ok-move_at.ensures.part

pub returns-in-Ok-move_at-clause-mounted : goal.returns-in-Ok-move_at-clause-mounted
returns-in-Ok-move_at-clause-mounted g c = record {
  rest = c.in-Ok-move_at.ensures.rest;
  unstaged = tables_unstaged c.in-Ok-move_at.ensures.rest.tables c.in-Ok-move_at.ensures.keeps c.in-Ok.ensures.mounted.unstaged;
  settled = c.in-Ok-move_at.ensures.settled;
  agrees = tables_agree c.in-Ok-move_at.ensures.keeps c.in-Ok.ensures.mounted.agrees;
}

pub returns-in-Ok-move_at-clause-phase : goal.returns-in-Ok-move_at-clause-phase
returns-in-Ok-move_at-clause-phase g c =
    let F = λ (fs : ℕ → Object). moved fs c.args.entry.dir c.args.entry.offset c.args.spot.now.dir c.args.spot.now.offset c.args.entry.number c.args.spot.now.name.now in
    room_phase (g.D.Pm.words c.args.dev) (g.D.Pm.words c.in-Ok.dev) F c.in-Ok.ensures.room.files c.in-Ok.ensures.phase c.in-Ok-move_at.ensures.phase

pub returns-in-Err-move_at-clause-phase : goal.returns-in-Err-move_at-clause-phase
returns-in-Err-move_at-clause-phase g c =
    let F = λ (fs : ℕ → Object). moved fs c.args.entry.dir c.args.entry.offset c.args.spot.now.dir c.args.spot.now.offset c.args.entry.number c.args.spot.now.name.now in
    room_phase (g.D.Pm.words c.args.dev) (g.D.Pm.words c.in-Ok.dev) F c.in-Ok.ensures.room.files c.in-Ok.ensures.phase c.in-Err-move_at.ensures.phase
