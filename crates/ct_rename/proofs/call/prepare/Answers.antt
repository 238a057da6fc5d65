use Rattle.std.proofs.Common.{inr}
use Rattle.ct_tree.specs.Step.{rename}
use Rattle.ct_rename.proofs.Calling.{form_can, form_plans, lacks_none, only_plan, plan_by}
use Rattle.ct_rename.proofs.call.prepare.Goals as goal

pub plan_for-plan-requires-clause-can : goal.plan_for-plan-requires-clause-can
plan_for-plan-requires-clause-can g c = form_can c.args.path.now c.args.to.now c.requires.mounted.rest c.in-Ok.form c.in-Ok.ensures.form

pub returns-in-Ok-check_space-clause-can : goal.returns-in-Ok-check_space-clause-can
returns-in-Ok-check_space-clause-can g c = form_can c.args.path.now c.args.to.now c.requires.mounted.rest c.in-Ok.form c.in-Ok.ensures.form

pub returns-in-Ok-check_space-clause-answer : goal.returns-in-Ok-check_space-clause-answer
returns-in-Ok-check_space-clause-answer g c t st =
    let w = g.D.Pm.words c.args.dev.now in
    let none = lacks_none w c.args.path.now c.args.to.now in
    let space = c.in-Ok-check_space.ensures.answer (rename c.args.path.now c.args.to.now) (plan_by w c.in-Ok.form) (only_plan c.args.path.now c.args.to.now c.requires.mounted.rest c.in-Ok.form c.in-Ok.ensures.form)
    (form_plans c.args.path.now c.args.to.now c.requires.mounted.rest c.in-Ok.form c.in-Ok.ensures.form c.plan_for-plan.result c.plan_for-plan.ensures) none in
    record { allowed = c.in-Ok.ensures.answer t st; inode = none; partition = space.0; pages = space.1 }

pub returns-in-Err-check_space-clause-answer : goal.returns-in-Err-check_space-clause-answer
returns-in-Err-check_space-clause-answer g c t st =
    let w = g.D.Pm.words c.args.dev.now in
    inr (
      c.in-Ok.ensures.answer t st,
      c.in-Err-check_space.ensures.answer (rename c.args.path.now c.args.to.now) (plan_by w c.in-Ok.form) (only_plan c.args.path.now c.args.to.now c.requires.mounted.rest c.in-Ok.form c.in-Ok.ensures.form)
          (form_plans c.args.path.now c.args.to.now c.requires.mounted.rest c.in-Ok.form c.in-Ok.ensures.form c.plan_for-plan.result c.plan_for-plan.ensures) (lacks_none w c.args.path.now c.args.to.now),
    )
