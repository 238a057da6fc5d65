use Rattle.ct_cut.proofs.Sides.{all_taken, edge_alone}
use Rattle.ct_stage.proofs.Ended.{seen_images, staged_seen, staged_state, staged_stores, state_images}
use Rattle.ct_cut.proofs.side.stage_side.Goals as goal

pub returns-in_err-stage_work-clause-stores : goal.returns-in_err-stage_work-clause-stores
returns-in_err-stage_work-clause-stores g c = staged_stores c.requires.rest.tables c.requires.agrees c.stage_work.ensures.works (g.met.D.Pm.replays c.args.dev.now) c.requires.settled c.requires.rest

pub returns-in_err-stage_work-clause-seen : goal.returns-in_err-stage_work-clause-seen
returns-in_err-stage_work-clause-seen g c = staged_seen c.requires.rest.tables c.requires.agrees c.stage_work.ensures.works

pub returns-in_err-stage_work-clause-seen_images : goal.returns-in_err-stage_work-clause-seen_images
returns-in_err-stage_work-clause-seen_images g c = seen_images c.requires.rest.tables c.requires.agrees c.stage_work.ensures.works (g.met.D.Pm.replays c.args.dev.now) c.requires.settled

pub returns-in_err-stage_work-clause-state : goal.returns-in_err-stage_work-clause-state
returns-in_err-stage_work-clause-state g c = staged_state c.requires.rest.tables c.requires.agrees c.stage_work.ensures.works c.requires.rest

pub returns-in_err-stage_work-clause-state_images : goal.returns-in_err-stage_work-clause-state_images
returns-in_err-stage_work-clause-state_images g c = state_images c.requires.rest.tables c.requires.agrees c.stage_work.ensures.works (g.met.D.Pm.replays c.args.dev.now) c.requires.settled c.requires.rest

pub returns-clause-unmapped : goal.returns-clause-unmapped
returns-clause-unmapped g c q slot away = edge_alone c.args.a c.args.b c.args.n c.args.from q c.requires.rest.unstaged c.in_ok-stage_work.ensures.makes slot away

pub returns-clause-taken : goal.returns-clause-taken
returns-clause-taken g c = all_taken c.in_ok-stage_work.ensures.makes c.in_ok-stage_work.ensures.met

pub returns-clause-stores : goal.returns-clause-stores
returns-clause-stores g c = staged_stores c.requires.rest.tables c.requires.agrees c.stage_work.ensures.works (g.met.D.Pm.replays c.args.dev.now) c.requires.settled c.requires.rest

pub returns-clause-seen : goal.returns-clause-seen
returns-clause-seen g c = staged_seen c.requires.rest.tables c.requires.agrees c.stage_work.ensures.works

pub returns-clause-seen_images : goal.returns-clause-seen_images
returns-clause-seen_images g c = seen_images c.requires.rest.tables c.requires.agrees c.stage_work.ensures.works (g.met.D.Pm.replays c.args.dev.now) c.requires.settled

pub returns-clause-laid : goal.returns-clause-laid
returns-clause-laid g c = Rattle.ct_stage.proofs.Off.laid_off c.requires.rest c.requires.agrees c.stage_work.ensures.works.same c.in_ok-stage_work.ensures.makes.tables

pub returns-clause-state : goal.returns-clause-state
returns-clause-state g c = staged_state c.requires.rest.tables c.requires.agrees c.stage_work.ensures.works c.requires.rest

pub returns-clause-state_images : goal.returns-clause-state_images
returns-clause-state_images g c = state_images c.requires.rest.tables c.requires.agrees c.stage_work.ensures.works (g.met.D.Pm.replays c.args.dev.now) c.requires.settled c.requires.rest
