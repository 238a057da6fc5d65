use Rattle.std.proofs.Common.{ap, arith}
use Rattle.ct_base.specs.Wants.{missing}
use Rattle.ct_image.proofs.MissingSum.{missing_first}
use Rattle.ct_plan.specs.Few.{few_wants}
use Rattle.ct_stage.specs.Staged.{pages_from}
use Rattle.ct_write.proofs.Paths.{missing_range}
use Rattle.ct_write.proofs.Tabled.{pages_phase, pages_prepared, tables_cells, tables_phase, tables_rest}
use Rattle.ct_write.proofs.prepare.prepare.Goals as goal

pub ensure_all-requires-clause-room : goal.ensure_all-requires-clause-room
ensure_all-requires-clause-room g c =
    omega (arith, ap (missing (g.D.Pm.words c.args.dev.now)) c.side_wants-wants.ensures, missing_first (g.D.Pm.words c.args.dev.now) (few_wants c.args.a c.args.b c.args.n) (pages_from c.args.b c.args.n), c.requires.room)

pub returns-in_err-ensure_all-clause-phase : goal.returns-in_err-ensure_all-clause-phase
returns-in_err-ensure_all-clause-phase g c = tables_phase c.args.a c.args.b c.args.n c.requires.rest c.requires.first_from c.requires.some c.side_wants-wants.ensures c.ensure_all.ensures.extends c.requires.placed c.requires.agrees c.requires.settled

pub stage-requires-clause-empty : goal.stage-requires-clause-empty
stage-requires-clause-empty g c = (tables_rest c.args.a c.args.b c.args.n c.requires.rest c.requires.first_from c.requires.some c.side_wants-wants.ensures c.ensure_all.ensures.extends).unstaged

pub stage-requires-clause-room : goal.stage-requires-clause-room
stage-requires-clause-room g c =
    omega (
      arith,
      missing_range (g.D.Pm.words c.args.dev.now) (g.D.Pm.words c.ensure_all.new.dev) c.args.a c.args.b c.args.n c.requires.first_from c.requires.some c.requires.second_from c.requires.second_to (tables_cells c.args.a c.args.b c.args.n c.requires.rest c.requires.first_from c.requires.some c.side_wants-wants.ensures c.ensure_all.ensures.extends),
      c.requires.room,
      c.in_ok-ensure_all.ensures.taken,
      ap (missing (g.D.Pm.words c.args.dev.now)) c.side_wants-wants.ensures,
    )

pub returns-in_err-stage-clause-phase : goal.returns-in_err-stage-clause-phase
returns-in_err-stage-clause-phase g c =
    pages_phase c.args.a c.args.b c.args.n c.requires.rest c.requires.first_from c.requires.some c.side_wants-wants.ensures c.ensure_all.ensures.extends c.requires.placed c.requires.agrees c.requires.settled
    c.stage.ensures.seen_images (c.stage.ensures.state_images (tables_rest c.args.a c.args.b c.args.n c.requires.rest c.requires.first_from c.requires.some c.side_wants-wants.ensures c.ensure_all.ensures.extends)) (c.stage.ensures.stores (tables_rest c.args.a c.args.b c.args.n c.requires.rest c.requires.first_from c.requires.some c.side_wants-wants.ensures c.ensure_all.ensures.extends))
    c.stage.ensures.seen (c.stage.ensures.state (tables_rest c.args.a c.args.b c.args.n c.requires.rest c.requires.first_from c.requires.some c.side_wants-wants.ensures c.ensure_all.ensures.extends))

pub returns-clause-phase : goal.returns-clause-phase
returns-clause-phase g c =
    pages_phase c.args.a c.args.b c.args.n c.requires.rest c.requires.first_from c.requires.some c.side_wants-wants.ensures c.ensure_all.ensures.extends c.requires.placed c.requires.agrees c.requires.settled
    c.stage.ensures.seen_images (c.stage.ensures.state_images (tables_rest c.args.a c.args.b c.args.n c.requires.rest c.requires.first_from c.requires.some c.side_wants-wants.ensures c.ensure_all.ensures.extends)) (c.stage.ensures.stores (tables_rest c.args.a c.args.b c.args.n c.requires.rest c.requires.first_from c.requires.some c.side_wants-wants.ensures c.ensure_all.ensures.extends))
    c.stage.ensures.seen (c.stage.ensures.state (tables_rest c.args.a c.args.b c.args.n c.requires.rest c.requires.first_from c.requires.some c.side_wants-wants.ensures c.ensure_all.ensures.extends))

pub returns-clause-prepared : goal.returns-clause-prepared
returns-clause-prepared g c =
    pages_prepared c.args.a c.args.b c.args.n c.requires.rest c.requires.first_from c.requires.some c.side_wants-wants.ensures c.ensure_all.ensures.extends c.args.edit.now c.in_ok-ensure_all.ensures.there c.requires.first_to c.requires.second_from c.requires.second_to
    c.stage.ensures.seen (c.in_ok-stage.ensures.laid (tables_rest c.args.a c.args.b c.args.n c.requires.rest c.requires.first_from c.requires.some c.side_wants-wants.ensures c.ensure_all.ensures.extends)) c.in_ok-stage.ensures.holds c.in_ok-stage.ensures.bytes c.stage.ensures.same.size

pub returns-clause-taken : goal.returns-clause-taken
returns-clause-taken g c =
    omega (
      arith,
      missing_range (g.D.Pm.words c.args.dev.now) (g.D.Pm.words c.ensure_all.new.dev) c.args.a c.args.b c.args.n c.requires.first_from c.requires.some c.requires.second_from c.requires.second_to (tables_cells c.args.a c.args.b c.args.n c.requires.rest c.requires.first_from c.requires.some c.side_wants-wants.ensures c.ensure_all.ensures.extends),
      c.in_ok-ensure_all.ensures.taken,
      c.in_ok-stage.ensures.taken,
      ap (missing (g.D.Pm.words c.args.dev.now)) c.side_wants-wants.ensures,
    )
