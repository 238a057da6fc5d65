use Rattle.ct_call.proofs.Rooms.{ready_of}
use Rattle.std.proofs.Common.{arith}
use Rattle.ct_base.specs.Inode.{inode}
use Rattle.ct_base.specs.View.{view}
use Rattle.ct_edit.proofs.Resized.{grows_never}
use Rattle.ct_edit.proofs.Rewritten.{mounted_now}
use Rattle.ct_edit.proofs.Shorter.{can_cut, cut_phase, cut_taken, remade_cut}
use Rattle.ct_edit.proofs.truncate.make_shorter.Goals as goal

pub returns-in-Ok-clause-changes : goal.returns-in-Ok-clause-changes
returns-in-Ok-clause-changes g c = (remade_cut c.args.len (can_cut (ready_of c.requires.mounted) c.requires.live c.requires.kind c.requires.less) c.in-Ok.ensures.cut).changes

pub returns-in-Ok-clause-moved : goal.returns-in-Ok-clause-moved
returns-in-Ok-clause-moved g c level goes =
    absurd (grows_never (g.D.Pm.words c.args.dev) (inode (view (g.D.Pm.words c.args.dev)) c.args.file) (let less = c.requires.less in omega (arith, less)) c.requires.plan goes)

pub returns-in-Ok-clause-taken : goal.returns-in-Ok-clause-taken
returns-in-Ok-clause-taken g c = cut_taken c.args.file c.args.len c.requires.less c.requires.plan c.requires.fits c.cut.new.frames c.in-Ok.ensures.taken

pub returns-in-Ok-clause-mounted : goal.returns-in-Ok-clause-mounted
returns-in-Ok-clause-mounted g c =
    mounted_now c.requires.mounted.rest (remade_cut c.args.len (can_cut (ready_of c.requires.mounted) c.requires.live c.requires.kind c.requires.less) c.in-Ok.ensures.cut) c.requires.mounted.unstaged c.in-Ok.ensures.ready c.in-Ok.ensures.settled c.in-Ok.ensures.agrees

pub returns-in-Ok-clause-phase : goal.returns-in-Ok-clause-phase
returns-in-Ok-clause-phase g c = cut_phase c.args.len c.requires.mounted.rest (can_cut (ready_of c.requires.mounted) c.requires.live c.requires.kind c.requires.less) c.in-Ok.ensures.phase

pub returns-in-Err-clause-phase : goal.returns-in-Err-clause-phase
returns-in-Err-clause-phase g c = cut_phase c.args.len c.requires.mounted.rest (can_cut (ready_of c.requires.mounted) c.requires.live c.requires.kind c.requires.less) c.in-Err.ensures.phase
