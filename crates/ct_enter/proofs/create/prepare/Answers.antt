use Rattle.std.proofs.Common.{inr, ◌∙◌}
use Rattle.ct_base.specs.View.{inode_count, view}
use Rattle.ct_enter.specs.Makes.{make_op}
use Rattle.ct_enter.specs.Plans.{plan_for}
use Rattle.ct_enter.proofs.EntryRoom.{number_few, plans}
use Rattle.ct_enter.proofs.Named.{make_refuses}
use Rattle.ct_enter.proofs.Numbers.{first_number, no_number}
use Rattle.ct_enter.proofs.Places.{can_plan}
use Rattle.ct_enter.proofs.Planned.{has_inode, makes_node, only_plan}
use Rattle.ct_enter.proofs.create.prepare.Goals as goal

pub returns-in-None-clause-answer : goal.returns-in-None-clause-answer
returns-in-None-clause-answer g c kind t st =
    let w = g.D.Pm.words c.args.dev.now in
    let path = c.args.path.now in
    inr (make_refuses kind t path ∙ c.in-Ok.ensures.answer t st, (makes_node kind path, no_number (view w) (inode_count w) c.load.result c.load.ensures c.in-None.ensures))

pub entry_plan-plan-requires-clause-can : goal.entry_plan-plan-requires-clause-can
entry_plan-plan-requires-clause-can g c = can_plan c.requires.mounted.rest c.in-Ok.ensures.spot.next

pub entry_plan-plan-requires-clause-number : goal.entry_plan-plan-requires-clause-number
entry_plan-plan-requires-clause-number g c =
    let w = g.D.Pm.words c.args.dev.now in
    number_few c.requires.mounted.rest (first_number (view w) (inode_count w) c.load.result c.in-Some.number c.load.ensures c.in-Some.ensures)

pub returns-in-Ok-check_space-clause-first : goal.returns-in-Ok-check_space-clause-first
returns-in-Ok-check_space-clause-first g c =
    let w = g.D.Pm.words c.args.dev.now in
    first_number (view w) (inode_count w) c.load.result c.in-Some.number c.load.ensures c.in-Some.ensures

pub returns-in-Ok-check_space-clause-answer : goal.returns-in-Ok-check_space-clause-answer
returns-in-Ok-check_space-clause-answer g c kind t st =
    let w = g.D.Pm.words c.args.dev.now in
    let path = c.args.path.now in
    let spot = c.in-Ok.spot in
    let number = c.in-Some.number in
    let next = c.in-Ok.ensures.spot.next in
    let first = first_number (view w) (inode_count w) c.load.result number c.load.ensures c.in-Some.ensures in
    let some = has_inode w kind path first in
    let space = c.in-Ok-check_space.ensures.answer (make_op kind path) (plan_for w spot.inode spot.offset number) (only_plan c.requires.mounted.rest next first path c.in-Ok.ensures.spot.parent kind)
    (plans (can_plan c.requires.mounted.rest next) number c.entry_plan-plan.ensures) some in
    record { allowed = make_refuses kind t path ∙ c.in-Ok.ensures.answer t st; inode = some; partition = space.0; pages = space.1 }

pub returns-in-Err-check_space-clause-answer : goal.returns-in-Err-check_space-clause-answer
returns-in-Err-check_space-clause-answer g c kind t st =
    let w = g.D.Pm.words c.args.dev.now in
    let path = c.args.path.now in
    let spot = c.in-Ok.spot in
    let number = c.in-Some.number in
    let next = c.in-Ok.ensures.spot.next in
    let first = first_number (view w) (inode_count w) c.load.result number c.load.ensures c.in-Some.ensures in
    inr (
      make_refuses kind t path ∙ c.in-Ok.ensures.answer t st,
      c.in-Err-check_space.ensures.answer (make_op kind path) (plan_for w spot.inode spot.offset number) (only_plan c.requires.mounted.rest next first path c.in-Ok.ensures.spot.parent kind)
          (plans (can_plan c.requires.mounted.rest next) number c.entry_plan-plan.ensures) (has_inode w kind path first),
    )
