use Rattle.ct_tree.specs.Lands.{files}
use Rattle.ct_commit.specs.Landing.{LandsAs}
use Rattle.ct_commit.proofs.Landed.{rest_as}
use Rattle.ct_call.proofs.Resting.{idle_phase}
use Rattle.ct_call.proofs.Rooms.{growth_phase, moved_rest, moved_unstaged}
use Rattle.ct_call.proofs.growing.grow.Goals as goal

pub promote-requires-clause-can : goal.promote-requires-clause-can
promote-requires-clause-can g c = (c.requires.can c.in-Some.level c.in-Some.is).0

pub returns-in-Ok-clause-mounted : goal.returns-in-Ok-clause-mounted
returns-in-Ok-clause-mounted g c =
    let can = (c.requires.can c.in-Some.level c.in-Some.is).0 in
    record {
      rest = moved_rest c.requires.mounted.rest can c.in-Ok.ensures.cells c.in-Ok.ensures.ready c.in-Ok.ensures.promoted;
      unstaged = moved_unstaged c.requires.mounted.rest can c.in-Ok.ensures.cells c.in-Ok.ensures.ready c.requires.mounted.unstaged;
      settled = c.in-Ok.ensures.settled;
      agrees = c.in-Ok.ensures.agrees;
    }

pub returns-in-Ok-clause-phase : goal.returns-in-Ok-clause-phase
returns-in-Ok-clause-phase g c = growth_phase c.requires.mounted.rest c.in-Ok.ensures.phase

pub returns-in-Err-clause-phase : goal.returns-in-Err-clause-phase
returns-in-Err-clause-phase g c = growth_phase c.requires.mounted.rest c.in-Err.ensures.phase

pub returns-in-None-clause-phase : goal.returns-in-None-clause-phase
returns-in-None-clause-phase g c = idle_phase (LandsAs (files (g.D.Pm.words c.args.dev))) c.requires.mounted (g.met.D.Pm.replays c.args.dev) (rest_as c.requires.mounted.rest)
