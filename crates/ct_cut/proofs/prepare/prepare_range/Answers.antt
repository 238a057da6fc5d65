use Rattle.std.proofs.Common.{ap, arith}
use Rattle.ct_base.specs.Wants.{missing}
use Rattle.ct_image.proofs.MissingSum.{missing_first}
use Rattle.ct_plan.specs.Few.{few_wants}
use Rattle.ct_cut.specs.Sides.{staged_wants, zeros}
use Rattle.ct_cut.proofs.Readying.{asks_left, both_tables, zero_bytes}
use Rattle.ct_write.proofs.Tabled.{pages_phase, range_prepared, tables_cells, tables_kept, tables_phase, tables_rest}
use Rattle.ct_cut.proofs.prepare.prepare_range.Goals as goal

pub ensure_all-requires-clause-room : goal.ensure_all-requires-clause-room
ensure_all-requires-clause-room g c =
    omega (arith, ap (missing (g.D.Pm.words c.args.dev.now)) c.side_wants-wants.ensures, missing_first (g.D.Pm.words c.args.dev.now) (few_wants c.args.a c.args.b c.args.n) (staged_wants c.args.a c.args.b c.args.n c.args.from), c.requires.room)

pub returns-in_err-ensure_all-clause-phase : goal.returns-in_err-ensure_all-clause-phase
returns-in_err-ensure_all-clause-phase g c = tables_phase c.args.a c.args.b c.args.n c.requires.rest c.requires.first_from c.requires.some c.side_wants-wants.ensures c.ensure_all.ensures.extends c.requires.placed c.requires.agrees c.requires.settled

pub stage_side-requires-clause-rest : goal.stage_side-requires-clause-rest
stage_side-requires-clause-rest g c = tables_rest c.args.a c.args.b c.args.n c.requires.rest c.requires.first_from c.requires.some c.side_wants-wants.ensures c.ensure_all.ensures.extends

pub stage_side-requires-clause-room : goal.stage_side-requires-clause-room
stage_side-requires-clause-room g c =
    omega (
      arith,
      asks_left (g.D.Pm.words c.args.dev.now) (g.D.Pm.words c.ensure_all.new.dev) c.args.a c.args.b c.args.n c.args.from c.requires.first_from c.requires.some c.requires.second_from c.requires.second_to (tables_cells c.args.a c.args.b c.args.n c.requires.rest c.requires.first_from c.requires.some c.side_wants-wants.ensures c.ensure_all.ensures.extends),
      c.requires.room,
      c.in_ok-ensure_all.ensures.taken,
      ap (missing (g.D.Pm.words c.args.dev.now)) c.side_wants-wants.ensures,
    )

pub returns-in_err-stage_side-clause-phase : goal.returns-in_err-stage_side-clause-phase
returns-in_err-stage_side-clause-phase g c =
    pages_phase c.args.a c.args.b c.args.n c.requires.rest c.requires.first_from c.requires.some c.side_wants-wants.ensures c.ensure_all.ensures.extends c.requires.placed c.requires.agrees c.requires.settled
    c.stage_side.ensures.seen_images c.stage_side.ensures.state_images c.stage_side.ensures.stores c.stage_side.ensures.seen c.stage_side.ensures.state

pub returns-clause-phase : goal.returns-clause-phase
returns-clause-phase g c =
    pages_phase c.args.a c.args.b c.args.n c.requires.rest c.requires.first_from c.requires.some c.side_wants-wants.ensures c.ensure_all.ensures.extends c.requires.placed c.requires.agrees c.requires.settled
    c.stage_side.ensures.seen_images c.stage_side.ensures.state_images c.stage_side.ensures.stores c.stage_side.ensures.seen c.stage_side.ensures.state

pub returns-clause-prepared : goal.returns-clause-prepared
returns-clause-prepared g c =
    range_prepared c.args.a c.args.b c.args.n c.requires.rest c.requires.first_from c.requires.some c.side_wants-wants.ensures c.ensure_all.ensures.extends (zeros c.args.from c.args.to)
    c.stage_side.ensures.seen c.in_ok-stage_side.ensures.laid
    (both_tables (g.D.Pm.words c.stage_side.new.dev) c.args.a c.args.b c.args.n c.args.from c.requires.some c.requires.first_to (omega (arith, c.requires.second_to)) c.requires.alike
    (tables_kept c.args.a c.args.b c.args.n c.requires.rest c.requires.first_from c.requires.some c.side_wants-wants.ensures c.ensure_all.ensures.extends c.in_ok-ensure_all.ensures.there c.stage_side.ensures.seen) c.in_ok-stage_side.ensures.met)
    (zero_bytes (g.D.Pm.words c.ensure_all.new.dev) (g.D.Pm.words c.stage_side.new.dev) c.args.a c.args.b c.args.n c.args.from c.args.to c.requires.second_from c.requires.second_to c.requires.begins c.requires.ends c.in_ok-stage_side.ensures.holds c.in_ok-stage_side.ensures.unmapped)
    c.stage_side.ensures.size

pub returns-clause-taken : goal.returns-clause-taken
returns-clause-taken g c =
    omega (
      arith,
      asks_left (g.D.Pm.words c.args.dev.now) (g.D.Pm.words c.ensure_all.new.dev) c.args.a c.args.b c.args.n c.args.from c.requires.first_from c.requires.some c.requires.second_from c.requires.second_to (tables_cells c.args.a c.args.b c.args.n c.requires.rest c.requires.first_from c.requires.some c.side_wants-wants.ensures c.ensure_all.ensures.extends),
      c.in_ok-ensure_all.ensures.taken,
      c.in_ok-stage_side.ensures.taken,
      ap (missing (g.D.Pm.words c.args.dev.now)) c.side_wants-wants.ensures,
    )
