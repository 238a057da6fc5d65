use Rattle.ct_call.proofs.Rooms.{ready_of}
use Rattle.std.proofs.Common.{ℕ, Option, inl, subst}
use Rattle.ct_base.specs.Objects.{Object}
use Rattle.ct_tree.specs.Lands.{files}
use Rattle.ct_write.specs.Written.{data_len}
use Rattle.ct_write.proofs.Files.{changed}
use Rattle.ct_commit.proofs.Landed.{rest_as}
use Rattle.ct_call.proofs.Resting.{idle_phase}
use Rattle.ct_call.specs.Rooms.{Gives}
use Rattle.ct_edit.specs.Changed.{Changes, ChangesOrNot}
use Rattle.ct_edit.specs.Edits.{written_from}
use Rattle.ct_edit.proofs.Rewritten.{remade_written, mounted_now, still_phase, write_phase}
use Rattle.ct_edit.proofs.Shifted.{part_stays, shifted_write}
use Rattle.ct_edit.proofs.Opened.{all_taken, can_write, opens, plots, room_there}
use Rattle.ct_edit.proofs.Widened.{can_grow, larger, next_is}
use Rattle.ct_edit.proofs.write.write_file.Goals as goal

pub returns-then-len_of-eq0-clause-phase : goal.returns-then-len_of-eq0-clause-phase
returns-then-len_of-eq0-clause-phase g c =
    idle_phase (ChangesOrNot (files (g.D.Pm.words c.args.dev)) c.args.file (written_from c.args.off c.args.what)) c.requires.mounted (g.met.D.Pm.replays c.args.dev) (inl (rest_as c.requires.mounted.rest))

pub grow-requires-clause-can : goal.grow-requires-clause-can
grow-requires-clause-can g c level goes =
    can_grow (plots c.args.off (data_len c.args.what) c.requires.mounted.rest c.requires.mounted.unstaged c.requires.live c.requires.kind c.len_of.ensures c.if-len_of-eq0.false c.requires.within c.requires.plan c.requires.fits) c.level.ensures level goes

pub returns-in-Err-clause-phase : goal.returns-in-Err-clause-phase
returns-in-Err-clause-phase g c = still_phase c.args.file (written_from c.args.off c.args.what) c.in-Err.ensures.phase

pub commit_write-requires-clause-can : goal.commit_write-requires-clause-can
commit_write-requires-clause-can g c =
    let o = opens c.args.off (data_len c.args.what) c.requires.mounted.rest c.requires.mounted.unstaged c.requires.live c.requires.kind c.len_of.ensures c.if-len_of-eq0.false c.requires.within c.requires.plan c.requires.fits c.level.ensures c.in-Ok.ensures.gives (ready_of c.in-Ok.ensures.mounted) in
    can_write o

pub commit_write-requires-clause-room : goal.commit_write-requires-clause-room
commit_write-requires-clause-room g c =
    let o = opens c.args.off (data_len c.args.what) c.requires.mounted.rest c.requires.mounted.unstaged c.requires.live c.requires.kind c.len_of.ensures c.if-len_of-eq0.false c.requires.within c.requires.plan c.requires.fits c.level.ensures c.in-Ok.ensures.gives (ready_of c.in-Ok.ensures.mounted) in
    room_there o

pub returns-in-Ok-commit_write-clause-changes : goal.returns-in-Ok-commit_write-clause-changes
returns-in-Ok-commit_write-clause-changes g c =
    let o = opens c.args.off (data_len c.args.what) c.requires.mounted.rest c.requires.mounted.unstaged c.requires.live c.requires.kind c.len_of.ensures c.if-len_of-eq0.false c.requires.within c.requires.plan c.requires.fits c.level.ensures c.in-Ok.ensures.gives (ready_of c.in-Ok.ensures.mounted) in
    subst (λ (fs : ℕ → Object). Changes fs (files (g.D.Pm.words c.in-Ok-commit_write.dev)) c.args.file (written_from c.args.off c.args.what)) c.in-Ok.ensures.files
    (remade_written c.args.what (can_write o) c.in-Ok-commit_write.ensures.written).changes

pub returns-in-Ok-commit_write-clause-moved : goal.returns-in-Ok-commit_write-clause-moved
returns-in-Ok-commit_write-clause-moved g c level goes =
    let o = opens c.args.off (data_len c.args.what) c.requires.mounted.rest c.requires.mounted.unstaged c.requires.live c.requires.kind c.len_of.ensures c.if-len_of-eq0.false c.requires.within c.requires.plan c.requires.fits c.level.ensures c.in-Ok.ensures.gives (ready_of c.in-Ok.ensures.mounted) in
    let can = can_write o in
    let is = next_is o.starts.plots level goes in
    shifted_write is.0 is.1 (subst (λ (o : Option ℕ). Gives (g.D.Pm.words c.args.dev) (g.D.Pm.words c.in-Ok.dev) c.args.frames.now c.grow.new.frames c.args.file o) goes o.starts.gives) (larger o.starts.plots level goes)
    (part_stays (changed can c.in-Ok-commit_write.ensures.written)) can.some c.in-Ok-commit_write.ensures.written

pub returns-in-Ok-commit_write-clause-taken : goal.returns-in-Ok-commit_write-clause-taken
returns-in-Ok-commit_write-clause-taken g c =
    let o = opens c.args.off (data_len c.args.what) c.requires.mounted.rest c.requires.mounted.unstaged c.requires.live c.requires.kind c.len_of.ensures c.if-len_of-eq0.false c.requires.within c.requires.plan c.requires.fits c.level.ensures c.in-Ok.ensures.gives (ready_of c.in-Ok.ensures.mounted) in
    all_taken o c.commit_write.new.frames c.in-Ok-commit_write.ensures.taken

pub returns-in-Ok-commit_write-clause-mounted : goal.returns-in-Ok-commit_write-clause-mounted
returns-in-Ok-commit_write-clause-mounted g c =
    let o = opens c.args.off (data_len c.args.what) c.requires.mounted.rest c.requires.mounted.unstaged c.requires.live c.requires.kind c.len_of.ensures c.if-len_of-eq0.false c.requires.within c.requires.plan c.requires.fits c.level.ensures c.in-Ok.ensures.gives (ready_of c.in-Ok.ensures.mounted) in
    mounted_now c.in-Ok.ensures.mounted.rest (remade_written c.args.what (can_write o) c.in-Ok-commit_write.ensures.written) c.in-Ok.ensures.mounted.unstaged c.in-Ok-commit_write.ensures.ready c.in-Ok-commit_write.ensures.settled c.in-Ok-commit_write.ensures.agrees

pub returns-in-Ok-commit_write-clause-phase : goal.returns-in-Ok-commit_write-clause-phase
returns-in-Ok-commit_write-clause-phase g c =
    let o = opens c.args.off (data_len c.args.what) c.requires.mounted.rest c.requires.mounted.unstaged c.requires.live c.requires.kind c.len_of.ensures c.if-len_of-eq0.false c.requires.within c.requires.plan c.requires.fits c.level.ensures c.in-Ok.ensures.gives (ready_of c.in-Ok.ensures.mounted) in
    write_phase c.args.what c.in-Ok.ensures.mounted.rest (can_write o) c.in-Ok.ensures.files c.in-Ok.ensures.phase c.in-Ok-commit_write.ensures.phase

pub returns-in-Err-commit_write-clause-phase : goal.returns-in-Err-commit_write-clause-phase
returns-in-Err-commit_write-clause-phase g c =
    let o = opens c.args.off (data_len c.args.what) c.requires.mounted.rest c.requires.mounted.unstaged c.requires.live c.requires.kind c.len_of.ensures c.if-len_of-eq0.false c.requires.within c.requires.plan c.requires.fits c.level.ensures c.in-Ok.ensures.gives (ready_of c.in-Ok.ensures.mounted) in
    write_phase c.args.what c.in-Ok.ensures.mounted.rest (can_write o) c.in-Ok.ensures.files c.in-Ok.ensures.phase c.in-Err-commit_write.ensures.phase
