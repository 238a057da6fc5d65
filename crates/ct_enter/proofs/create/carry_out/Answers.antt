use Rattle.std.proofs.Common.{◌+◌, ◌∙◌, ap, sym, subst, arith}
use Rattle.std.specs.Prelude.{max}
use Rattle.std.proofs.lemmas.Result.{err_from_is_err_and}
use Rattle.ct_base.specs.declared.inode.Inode.{Inode}
use Rattle.ct_commit.proofs.Resting.{tables_agree, tables_unstaged}
use Rattle.ct_enter.proofs.Lasting.{entry_phase, no_entry_phase}
use Rattle.ct_enter.proofs.Placing.{moved_on, size_stays}
use Rattle.ct_enter.specs.Entry.{IsSpot}
use Rattle.ct_inode.proofs.Live.{live_same}
use Rattle.ct_enter.proofs.EntryRoom.{asks, here_next, here_plan, inode_there, number_few, spot_there}
use Rattle.ct_enter.proofs.create.carry_out.Goals as goal

pub room-requires-clause-asks : goal.room-requires-clause-asks
room-requires-clause-asks g c = asks c.requires.mounted.rest (here_next c.requires.next) (number_few c.requires.mounted.rest c.requires.first) (here_plan c.requires.next c.requires.plan) c.requires.fits.opens

pub enter-requires-clause-spot : goal.enter-requires-clause-spot
enter-requires-clause-spot g c =
    subst (λ i. IsSpot (g.D.Pm.words c.in_ok-dev.dev) c.args.spot.now.dir i c.args.spot.now.offset c.args.spot.now.name.now) (sym c.get.ensures)
    (spot_there c.requires.mounted.rest (here_next c.requires.next) (number_few c.requires.mounted.rest c.requires.first) (here_plan c.requires.next c.requires.plan) c.requires.fits.opens c.in_ok-dev.ensures.room c.args.spot.now.name.now c.requires.fresh)

pub enter-requires-clause-unused : goal.enter-requires-clause-unused
enter-requires-clause-unused g c =
    inode_there c.requires.mounted.rest (here_next c.requires.next) (number_few c.requires.mounted.rest c.requires.first) (here_plan c.requires.next c.requires.plan) c.requires.fits.opens c.in_ok-dev.ensures.room c.requires.first

pub returns-in_err-dev-clause-phase : goal.returns-in_err-dev-clause-phase
returns-in_err-dev-clause-phase g c = let p = err_from_is_err_and c.from_residual.result c.from_residual.ensures.1 in rw (p.1, p.2) (no_entry_phase c.in_err-dev.ensures.phase)

pub returns-in-Ok-clause-phase : goal.returns-in-Ok-clause-phase
returns-in-Ok-clause-phase g c = entry_phase (g.D.Pm.words c.args.dev) (g.D.Pm.words c.in_ok-dev.dev) c.in_ok-dev.ensures.room.files c.in_ok-dev.ensures.phase c.in-Ok.ensures.phase

pub returns-in-Err-clause-phase : goal.returns-in-Err-clause-phase
returns-in-Err-clause-phase g c = entry_phase (g.D.Pm.words c.args.dev) (g.D.Pm.words c.in_ok-dev.dev) c.in_ok-dev.ensures.room.files c.in_ok-dev.ensures.phase c.in-Err.ensures.phase

pub returns-in-Ok-clause-mounted : goal.returns-in-Ok-clause-mounted
returns-in-Ok-clause-mounted g c = record {
  rest = c.in-Ok.ensures.entry.rest;
  unstaged = tables_unstaged c.in-Ok.ensures.entry.rest.tables c.in-Ok.ensures.entry.keeps c.in_ok-dev.ensures.mounted.unstaged;
  settled = c.in-Ok.ensures.settled;
  agrees = tables_agree c.in-Ok.ensures.entry.keeps c.in_ok-dev.ensures.mounted.agrees;
}

pub returns-in-Ok-clause-counted : goal.returns-in-Ok-clause-counted
returns-in-Ok-clause-counted g c = c.in-Ok.ensures.entry.keeps.head 3 (omega arith) ∙ c.in_ok-dev.ensures.room.counted

pub returns-in-Ok-clause-size : goal.returns-in-Ok-clause-size
returns-in-Ok-clause-size g c =
    let room = c.in_ok-dev.ensures.room in
    let next = c.requires.next in
    c.in-Ok.ensures.size
    ∙ ap (λ (i : Inode). max i.size (c.args.spot.now.offset + 256)) c.get.ensures
    ∙ ap (λ n. max n (c.args.spot.now.offset + 256)) (size_stays (g.D.Pm.words c.args.dev) (g.D.Pm.words c.in_ok-dev.dev) next.live.number room.counted room.files ∙ ap (λ (i : Inode). i.size) next.is)

pub returns-in-Ok-clause-moved : goal.returns-in-Ok-clause-moved
returns-in-Ok-clause-moved g c level goes = moved_on (c.in_ok-dev.ensures.room.moved level goes) c.in-Ok.ensures.entry.keeps c.in-Ok.ensures.part

pub returns-in-Ok-clause-live : goal.returns-in-Ok-clause-live
returns-in-Ok-clause-live g c i live =
    c.in-Ok.ensures.live i (live_same (g.D.Pm.words c.args.dev) (g.D.Pm.words c.in_ok-dev.dev) c.in_ok-dev.ensures.room.counted c.in_ok-dev.ensures.room.files i live)
