use Rattle.std.proofs.Common.{◌≢◌, ◌+◌, ◌-◌, ℕ, length, sym, subst, arith}
use Rattle.ct_cut.proofs.Sides.{first_covered, first_room, last_covered, last_room, room_left, tables_after, way_stays}
use Rattle.ct_cut.specs.Sides.{side_tables}
use Rattle.ct_plan.specs.Few.{edge}
use Rattle.ct_stage.proofs.Steps.{makes_then_of}
use Rattle.ct_walk.specs.Growth.{Covers}
use Rattle.ct_walk.specs.Pages.{on_way}
use Rattle.ct_cut.proofs.side.stage_tables.Goals as goal

pub stage_table-requires-clause-room : goal.stage_table-requires-clause-room
stage_table-requires-clause-room g c = first_room (g.D.Pm.words c.args.dev.now) c.args.b c.args.n c.edge.result (length c.args.frames.now.free) c.edge.ensures.exact c.requires.room

pub stage_table-requires-2-clause-tables : goal.stage_table-requires-2-clause-tables
stage_table-requires-2-clause-tables g c = (tables_after c.args.b (4 - c.edge.result) (omega arith) c.in_ok-stage_table.ensures.makes).0

pub stage_table-requires-2-clause-agrees : goal.stage_table-requires-2-clause-agrees
stage_table-requires-2-clause-agrees g c = (tables_after c.args.b (4 - c.edge.result) (omega arith) c.in_ok-stage_table.ensures.makes).1

pub stage_table-requires-2-clause-room : goal.stage_table-requires-2-clause-room
stage_table-requires-2-clause-room g c =
    let makes = c.in_ok-stage_table.ensures.makes (side_tables c.args.b c.args.n) (subst (λ (e : ℕ). Covers (side_tables c.args.b c.args.n) c.args.b (4 - e)) (sym c.edge.ensures.exact) (first_covered c.args.b c.args.n)) in
    last_room (g.D.Pm.words c.stage_table.new.dev) c.args.b c.args.n c.edge-2.result (length c.stage_table.new.frames.free) c.edge-2.ensures.exact (room_left makes c.requires.room)

pub returns-in_err-stage_table-2-clause-works : goal.returns-in_err-stage_table-2-clause-works
returns-in_err-stage_table-2-clause-works g c start was first begun = c.stage_table-2.ensures.works start was first (c.in_ok-stage_table.ensures.begun start was first begun)

pub returns-clause-works : goal.returns-clause-works
returns-clause-works g c start was first begun = c.stage_table-2.ensures.works start was first (c.in_ok-stage_table.ensures.begun start was first begun)

pub returns-clause-first : goal.returns-clause-first
returns-clause-first g c =
    let own = c.in_ok-stage_table-2.ensures.makes (side_tables c.args.b c.args.n) (subst (λ (e : ℕ). Covers (side_tables c.args.b c.args.n) (c.args.b + c.args.n - 1) (4 - e)) (sym c.edge-2.ensures.exact) (last_covered c.args.b c.args.n)) in
    way_stays own c.args.b (4 - edge 3 c.args.b) (omega arith) (subst (λ (e : ℕ). on_way (g.D.Pm.words c.stage_table.new.dev) c.args.b (4 - e) ≢ 0) c.edge.ensures.exact c.in_ok-stage_table.ensures.there)

pub returns-clause-last : goal.returns-clause-last
returns-clause-last g c = subst (λ (e : ℕ). on_way (g.D.Pm.words c.stage_table-2.new.dev) (c.args.b + c.args.n - 1) (4 - e) ≢ 0) c.edge-2.ensures.exact c.in_ok-stage_table-2.ensures.there

pub returns-clause-makes : goal.returns-clause-makes
returns-clause-makes g c wants first last =
    makes_then_of c.in_ok-stage_table.ensures.left c.in_ok-stage_table-2.ensures.left (c.in_ok-stage_table.ensures.makes wants (subst (λ (e : ℕ). Covers wants c.args.b (4 - e)) (sym c.edge.ensures.exact) first))
    (c.in_ok-stage_table-2.ensures.makes wants (subst (λ (e : ℕ). Covers wants (c.args.b + c.args.n - 1) (4 - e)) (sym c.edge-2.ensures.exact) last))

pub returns-clause-begun : goal.returns-clause-begun
returns-clause-begun g c start was first begun = c.in_ok-stage_table-2.ensures.begun start was first (c.in_ok-stage_table.ensures.begun start was first begun)
