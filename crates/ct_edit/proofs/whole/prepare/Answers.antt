use Rattle.std.proofs.Common.{◌∙◌, inl, inr, sym}
use Rattle.std.proofs.lemmas.Bool.{false≢true}
use Rattle.ct_edit.proofs.Preparing.{can_plan, end_of, is_above, no_file_refused, not_above, only_plan, takes_no_inode}
use Rattle.ct_edit.proofs.whole.prepare.Goals as goal

pub returns-in-Err-clause-answer : goal.returns-in-Err-clause-answer
returns-in-Err-clause-answer g c t st = inl (no_file_refused c.args.path.now c.args.edit t c.in-Err.refusal (c.in-Err.ensures t st))

pub returns-then-not-is_within-clause-answer : goal.returns-then-not-is_within-clause-answer
returns-then-not-is_within-clause-answer g c t st =
    inl (end_of c.in-Ok.ensures c.args.edit t st c.task_of-task.ensures ∙ is_above _ (λ le. false≢true (sym c.if-not-is_within.true ∙ c.is_within.ensures.1 le)))

pub task_plan-plan-requires-clause-can : goal.task_plan-plan-requires-clause-can
task_plan-plan-requires-clause-can g c = can_plan c.in-Ok.ensures c.requires.mounted.rest

pub returns-in-Ok-check_space-clause-answer : goal.returns-in-Ok-check_space-clause-answer
returns-in-Ok-check_space-clause-answer g c t st =
    let never = takes_no_inode (g.D.Pm.words c.args.dev.now) c.args.path.now c.args.edit in
    let space = c.in-Ok-check_space.ensures.answer _ _ (only_plan c.requires.mounted.rest c.in-Ok.ensures c.args.edit c.task_of-task.ensures) c.task_plan-plan.ensures never in
    record {
      allowed = end_of c.in-Ok.ensures c.args.edit t st c.task_of-task.ensures ∙ not_above _ (c.is_within.ensures.0 c.if-not-is_within.false);
      inode = never;
      partition = space.0;
      pages = space.1;
    }

pub returns-in-Err-check_space-clause-answer : goal.returns-in-Err-check_space-clause-answer
returns-in-Err-check_space-clause-answer g c t st =
    let never = takes_no_inode (g.D.Pm.words c.args.dev.now) c.args.path.now c.args.edit in
    inr (
      end_of c.in-Ok.ensures c.args.edit t st c.task_of-task.ensures ∙ not_above _ (c.is_within.ensures.0 c.if-not-is_within.false),
      c.in-Err-check_space.ensures.answer _ _ (only_plan c.requires.mounted.rest c.in-Ok.ensures c.args.edit c.task_of-task.ensures) c.task_plan-plan.ensures never,
    )
