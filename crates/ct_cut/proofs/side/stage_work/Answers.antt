use Rattle.std.proofs.Common.{◌+◌, ◌-◌, ◌*◌, ℕ, List, sym, ap, subst, ◌∙◌, arith}
use Rattle.ct_base.specs.Inode.{little}
use Rattle.ct_cut.proofs.Sides.{all_there, edge_covered, edge_part, first_covered, last_covered, room_left, tables_absent, tables_part, way_stays, with_edge}
use Rattle.ct_cut.specs.Sides.{side_tables, staged_wants, zeros}
use Rattle.ct_plan.specs.Few.{edge}
use Rattle.ct_stage.proofs.Ended.{staged_long}
use Rattle.ct_stage.proofs.Off.{sees_same}
use Rattle.ct_stage.proofs.Steps.{begun_here, makes_then_of}
use Rattle.ct_stage.specs.Edited.{edited}
use Rattle.ct_stage.specs.Staged.{Begun, Holds, Makes}
use Rattle.ct_cut.proofs.side.stage_work.Given.{Over}
use Rattle.ct_cut.proofs.side.stage_work.Goals as goal

pub stage_tables-requires-clause-room : goal.stage_tables-requires-clause-room
stage_tables-requires-clause-room g c = omega (arith, tables_part (g.D.Pm.words c.args.dev.now) c.args.a c.args.b c.args.n c.args.from, c.requires.room)

pub returns-in_err-stage_tables-clause-works : goal.returns-in_err-stage_tables-clause-works
returns-in_err-stage_tables-clause-works g c =
    c.stage_tables.ensures.works (g.D.Pm.words c.args.dev.now) (g.D.Pm.told c.args.dev.now) c.args.frames.now (begun_here (g.D.Pm.words c.args.dev.now) (g.D.Pm.told c.args.dev.now) c.args.frames.now c.requires.empty)

pub stage_edge-requires-clause-tables : goal.stage_edge-requires-clause-tables
stage_edge-requires-clause-tables g c = (with_edge c.args.a c.args.b c.args.n c.args.from c.in_ok-stage_tables.ensures.makes).tables

pub stage_edge-requires-clause-agrees : goal.stage_edge-requires-clause-agrees
stage_edge-requires-clause-agrees g c = (with_edge c.args.a c.args.b c.args.n c.args.from c.in_ok-stage_tables.ensures.makes).agrees

pub stage_edge-requires-clause-absent : goal.stage_edge-requires-clause-absent
stage_edge-requires-clause-absent g c =
    tables_absent c.args.b c.args.n c.args.b c.requires.empty (c.in_ok-stage_tables.ensures.makes (side_tables c.args.b c.args.n) (first_covered c.args.b c.args.n) (last_covered c.args.b c.args.n))
    (omega (arith, c.requires.second_from, c.requires.second_to, c.requires.some))

pub stage_edge-requires-clause-room : goal.stage_edge-requires-clause-room
stage_edge-requires-clause-room g c = omega (arith, edge_part (g.D.Pm.words c.stage_tables.new.dev) c.args.a c.args.b c.args.n c.args.from, room_left (with_edge c.args.a c.args.b c.args.n c.args.from c.in_ok-stage_tables.ensures.makes) c.requires.room)

pub returns-in_err-stage_edge-clause-works : goal.returns-in_err-stage_edge-clause-works
returns-in_err-stage_edge-clause-works g c =
    c.stage_edge.ensures.works (g.D.Pm.words c.args.dev.now) (g.D.Pm.told c.args.dev.now) c.args.frames.now
    (c.in_ok-stage_tables.ensures.begun (g.D.Pm.words c.args.dev.now) (g.D.Pm.told c.args.dev.now) c.args.frames.now (begun_here (g.D.Pm.words c.args.dev.now) (g.D.Pm.told c.args.dev.now) c.args.frames.now c.requires.empty))

pub stage_end-requires : goal.stage_end-requires
stage_end-requires g c = staged_long c.requires.tables (c.in_ok-stage_edge.ensures.begun (g.D.Pm.words c.args.dev.now) (g.D.Pm.told c.args.dev.now) c.args.frames.now
    (c.in_ok-stage_tables.ensures.begun (g.D.Pm.words c.args.dev.now) (g.D.Pm.told c.args.dev.now) c.args.frames.now (begun_here (g.D.Pm.words c.args.dev.now) (g.D.Pm.told c.args.dev.now) c.args.frames.now c.requires.empty))).works

pub returns-in_err-stage_end-clause-works : goal.returns-in_err-stage_end-clause-works
returns-in_err-stage_end-clause-works g c =
    let work = c.in_ok-stage_edge.ensures.begun (g.D.Pm.words c.args.dev.now) (g.D.Pm.told c.args.dev.now) c.args.frames.now
    (c.in_ok-stage_tables.ensures.begun (g.D.Pm.words c.args.dev.now) (g.D.Pm.told c.args.dev.now) c.args.frames.now (begun_here (g.D.Pm.words c.args.dev.now) (g.D.Pm.told c.args.dev.now) c.args.frames.now c.requires.empty)) in
    c.stage_end.ensures.works (g.D.Pm.words c.args.dev.now) (g.D.Pm.told c.args.dev.now) c.args.frames.now c.stage_edge.new.frames work.works

module _ (g : Over) (c : goal.In_ok-stage_end g) where
  work : Begun (g.D.Pm.words c.args.dev.now) (g.D.Pm.words c.stage_edge.new.dev) (g.D.Pm.told c.args.dev.now) (g.D.Pm.told c.stage_edge.new.dev) c.args.frames.now c.stage_edge.new.frames
  work =
      c.in_ok-stage_edge.ensures.begun (g.D.Pm.words c.args.dev.now) (g.D.Pm.told c.args.dev.now) c.args.frames.now
      (c.in_ok-stage_tables.ensures.begun (g.D.Pm.words c.args.dev.now) (g.D.Pm.told c.args.dev.now) c.args.frames.now (begun_here (g.D.Pm.words c.args.dev.now) (g.D.Pm.told c.args.dev.now) c.args.frames.now c.requires.empty))

  edge_made : Makes (staged_wants c.args.a c.args.b c.args.n c.args.from) (g.D.Pm.words c.stage_tables.new.dev) (g.D.Pm.words c.stage_edge.new.dev) c.stage_tables.new.frames c.stage_edge.new.frames
  edge_made = c.in_ok-stage_edge.ensures.makes (staged_wants c.args.a c.args.b c.args.n c.args.from) (λ lt. edge_covered c.args.a c.args.b c.args.n c.args.from lt)

  all_made : Makes (staged_wants c.args.a c.args.b c.args.n c.args.from) (g.D.Pm.words c.args.dev.now) (g.D.Pm.words c.stage_edge.new.dev) c.args.frames.now c.stage_edge.new.frames
  all_made = makes_then_of c.in_ok-stage_tables.ensures.left c.in_ok-stage_edge.ensures.left (with_edge c.args.a c.args.b c.args.n c.args.from c.in_ok-stage_tables.ensures.makes) edge_made

pub returns-clause-works : goal.returns-clause-works
returns-clause-works g c = c.stage_end.ensures.works (g.D.Pm.words c.args.dev.now) (g.D.Pm.told c.args.dev.now) c.args.frames.now c.stage_edge.new.frames (work g c).works

pub returns-clause-makes : goal.returns-clause-makes
returns-clause-makes g c =
    subst (λ (l : List ℕ). Makes (staged_wants c.args.a c.args.b c.args.n c.args.from) (g.D.Pm.words c.args.dev.now) l c.args.frames.now c.stage_edge.new.frames) (sym c.stage_end.ensures.words) (all_made g c)

pub returns-clause-met : goal.returns-clause-met
returns-clause-met g c =
    let words = c.stage_end.ensures.words in
    let made = edge_made g c in
    let there = all_there (g.D.Pm.words c.stage_edge.new.dev) c.args.a c.args.b c.args.n c.args.from
    (way_stays made c.args.b (4 - edge 3 c.args.b) (omega arith) c.in_ok-stage_tables.ensures.first)
    (way_stays made (c.args.b + c.args.n - 1) (4 - edge 3 (c.args.b + c.args.n)) (omega arith) c.in_ok-stage_tables.ensures.last)
    (λ lt. (c.in_ok-stage_edge.ensures.holds lt).0) in
    subst (λ (l : List ℕ). Rattle.ct_plan.specs.Few.AreMet l (staged_wants c.args.a c.args.b c.args.n c.args.from)) (sym words) there

pub returns-clause-holds : goal.returns-clause-holds
returns-clause-holds g c lt =
    let seen = sees_same c.requires.tables c.requires.agrees (c.in_ok-stage_tables.ensures.begun (g.D.Pm.words c.args.dev.now) (g.D.Pm.told c.args.dev.now) c.args.frames.now (begun_here (g.D.Pm.words c.args.dev.now) (g.D.Pm.told c.args.dev.now) c.args.frames.now c.requires.empty)).works.same in
    let has = c.in_ok-stage_edge.ensures.holds lt in
    subst (λ (l : List ℕ). Holds l c.args.b (λ k. little (edited (Rattle.ct_base.specs.View.view (g.D.Pm.words c.args.dev.now)) (zeros c.args.from c.args.to)) (c.args.a * 4096 + 8 * k) 8)) (sym c.stage_end.ensures.words)
    (has.0, λ k small. has.1 k small ∙ ap (λ b. little (edited b (zeros c.args.from c.args.to)) (c.args.a * 4096 + 8 * k) 8) seen.bytes)

pub returns-clause-settled : goal.returns-clause-settled
returns-clause-settled g c =
    c.in_ok-stage_end.ensures.settled (g.D.Pm.words c.args.dev.now) (g.D.Pm.told c.args.dev.now) c.args.frames.now c.stage_edge.new.frames (work g c) (g.met.D.Pm.replays c.args.dev.now) c.requires.settled
