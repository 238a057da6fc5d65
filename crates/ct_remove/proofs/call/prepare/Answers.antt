use Rattle.std.proofs.Common.{inl, inr}
use Rattle.ct_remove.proofs.Planned.{lacks_none, object_placed, only_plan, plan_for, plans}
use Rattle.ct_find.specs.Kinds.{leave_op}
use Rattle.ct_remove.proofs.call.prepare.Goals as goal

pub returns-in-Err-clause-answer : goal.returns-in-Err-clause-answer
returns-in-Err-clause-answer g c t st = inl (c.in-Err.ensures.answer t st)

pub removal_plan-plan-requires : goal.removal_plan-plan-requires
removal_plan-plan-requires g c = object_placed c.requires.mounted.rest c.in-Ok.ensures.entry c.in-Ok.ensures.leaf c.in-Ok.found.1 c.in-Ok.ensures.inode

pub returns-in-Ok-check_space-clause-answer : goal.returns-in-Ok-check_space-clause-answer
returns-in-Ok-check_space-clause-answer g c t st =
    let w = g.D.Pm.words c.args.dev.now in
    let number = c.in-Ok.found.0.number in
    let op = leave_op c.args.kind c.args.path.now in
    let none = lacks_none w c.args.kind c.args.path.now in
    let space = c.in-Ok-check_space.ensures.answer op (plan_for w number) (only_plan c.requires.mounted.rest c.in-Ok.ensures.entry c.args.kind)
    (plans c.requires.mounted.rest c.in-Ok.ensures.entry c.removal_plan-plan.ensures.growth c.removal_plan-plan.ensures.wants c.in-Ok.ensures.inode) none in
    record { allowed = c.in-Ok.ensures.answer t st; inode = none; partition = space.0; pages = space.1 }

pub returns-in-Err-check_space-clause-answer : goal.returns-in-Err-check_space-clause-answer
returns-in-Err-check_space-clause-answer g c t st =
    let w = g.D.Pm.words c.args.dev.now in
    let number = c.in-Ok.found.0.number in
    let op = leave_op c.args.kind c.args.path.now in
    inr (
      c.in-Ok.ensures.answer t st,
      c.in-Err-check_space.ensures.answer op (plan_for w number) (only_plan c.requires.mounted.rest c.in-Ok.ensures.entry c.args.kind)
          (plans c.requires.mounted.rest c.in-Ok.ensures.entry c.removal_plan-plan.ensures.growth c.removal_plan-plan.ensures.wants c.in-Ok.ensures.inode) (lacks_none w c.args.kind c.args.path.now),
    )
