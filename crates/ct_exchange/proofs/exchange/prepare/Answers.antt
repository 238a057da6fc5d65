use Rattle.std.proofs.Common.{ℕ, ◌∙◌, inl, inr, sym, subst}
use Rattle.std.proofs.lemmas.Result.{err_from_is_err_and}
use Rattle.ct_tree.specs.Step.{exchange}
use Rattle.ct_call.proofs.Spaced.{only_need}
use Rattle.ct_call.specs.Plans.{IsOpen}
use Rattle.ct_exchange.proofs.Preparing.{by_sizes, makes_none, may_exchange, only_plan, plan_is, plans, refusal_by_numbers}
use Rattle.ct_exchange.proofs.exchange.prepare.Goals as goal

pub returns-in_err-check_numbers-clause-answer : goal.returns-in_err-check_numbers-clause-answer
returns-in_err-check_numbers-clause-answer g c t st =
    let found : ℕ × ℕ = (c.in_ok-first.first, c.in_ok-first.second) in
    let r = c.requires.mounted.rest in
    let p = err_from_is_err_and c.from_residual-in_err-check_numbers.result c.from_residual-in_err-check_numbers.ensures.1 in rw (p.1, p.2) (inl (
    refusal_by_numbers r c.args.path.now c.args.other.now found.0 found.1 c.in_ok-first.ensures.0 c.in_ok-first.ensures.1 c.args.off c.args.other_off c.args.len t st
    ∙ sym (by_sizes r c.args.path.now c.args.other.now found.0 found.1 c.in_ok-first.ensures.0 c.in_ok-first.ensures.1 c.args.off c.args.other_off c.args.len c.get-size.result c.get-other_size.result c.get-size.ensures c.get-other_size.ensures)
    ∙ c.in_err-check_numbers.ensures
    ))

pub plan-plan-requires-clause-can : goal.plan-plan-requires-clause-can
plan-plan-requires-clause-can g c some =
    let found : ℕ × ℕ = (c.in_ok-first.first, c.in_ok-first.second) in
    let r = c.requires.mounted.rest in
    let passes = sym (by_sizes r c.args.path.now c.args.other.now found.0 found.1 c.in_ok-first.ensures.0 c.in_ok-first.ensures.1 c.args.off c.args.other_off c.args.len c.get-size.result c.get-other_size.result c.get-size.ensures c.get-other_size.ensures) ∙ c.in_ok-check_numbers.ensures in
    may_exchange r c.args.path.now c.args.other.now found.0 found.1 c.in_ok-first.ensures.0 c.in_ok-first.ensures.1 c.args.off c.args.other_off c.args.len passes some

pub returns-in-Ok-clause-can : goal.returns-in-Ok-clause-can
returns-in-Ok-clause-can g c some =
    let found : ℕ × ℕ = (c.in_ok-first.first, c.in_ok-first.second) in
    let r = c.requires.mounted.rest in
    let passes = sym (by_sizes r c.args.path.now c.args.other.now found.0 found.1 c.in_ok-first.ensures.0 c.in_ok-first.ensures.1 c.args.off c.args.other_off c.args.len c.get-size.result c.get-other_size.result c.get-size.ensures c.get-other_size.ensures) ∙ c.in_ok-check_numbers.ensures in
    may_exchange r c.args.path.now c.args.other.now found.0 found.1 c.in_ok-first.ensures.0 c.in_ok-first.ensures.1 c.args.off c.args.other_off c.args.len passes some

pub returns-in-Ok-clause-answer : goal.returns-in-Ok-clause-answer
returns-in-Ok-clause-answer g c t st =
    let w = g.D.Pm.words c.args.dev.now in
    let path = c.args.path.now in
    let other = c.args.other.now in
    let found : ℕ × ℕ = (c.in_ok-first.first, c.in_ok-first.second) in
    let r = c.requires.mounted.rest in
    let passes = sym (by_sizes r path other found.0 found.1 c.in_ok-first.ensures.0 c.in_ok-first.ensures.1 c.args.off c.args.other_off c.args.len c.get-size.result c.get-other_size.result c.get-size.ensures c.get-other_size.ensures) ∙ c.in_ok-check_numbers.ensures in
    let never = makes_none w path other c.args.off c.args.other_off c.args.len in
    let space = c.in-Ok.ensures.answer (exchange path c.args.off other c.args.other_off c.args.len) (plan_is r path other found.0 found.1 c.in_ok-first.ensures.0 c.in_ok-first.ensures.1 c.args.off c.args.other_off c.args.len passes)
    (only_plan r path other found.0 found.1 c.in_ok-first.ensures.0 c.in_ok-first.ensures.1 c.args.off c.args.other_off c.args.len passes)
    (plans r path other found.0 found.1 c.in_ok-first.ensures.0 c.in_ok-first.ensures.1 c.args.off c.args.other_off c.args.len passes c.plan-plan.result c.plan-plan.ensures.growth c.plan-plan.ensures.wants) never in
    record {
      allowed = refusal_by_numbers r path other found.0 found.1 c.in_ok-first.ensures.0 c.in_ok-first.ensures.1 c.args.off c.args.other_off c.args.len t st ∙ passes;
      inode = never;
      partition = space.0;
      pages = space.1;
    }

pub returns-in-Err-clause-answer : goal.returns-in-Err-clause-answer
returns-in-Err-clause-answer g c t st =
    let w = g.D.Pm.words c.args.dev.now in
    let path = c.args.path.now in
    let other = c.args.other.now in
    let found : ℕ × ℕ = (c.in_ok-first.first, c.in_ok-first.second) in
    let r = c.requires.mounted.rest in
    let passes = sym (by_sizes r path other found.0 found.1 c.in_ok-first.ensures.0 c.in_ok-first.ensures.1 c.args.off c.args.other_off c.args.len c.get-size.result c.get-other_size.result c.get-size.ensures c.get-other_size.ensures) ∙ c.in_ok-check_numbers.ensures in
    inr (
      refusal_by_numbers r path other found.0 found.1 c.in_ok-first.ensures.0 c.in_ok-first.ensures.1 c.args.off c.args.other_off c.args.len t st ∙ passes,
      c.in-Err.ensures.answer (exchange path c.args.off other c.args.other_off c.args.len) (plan_is r path other found.0 found.1 c.in_ok-first.ensures.0 c.in_ok-first.ensures.1 c.args.off c.args.other_off c.args.len passes)
          (only_plan r path other found.0 found.1 c.in_ok-first.ensures.0 c.in_ok-first.ensures.1 c.args.off c.args.other_off c.args.len passes)
          (plans r path other found.0 found.1 c.in_ok-first.ensures.0 c.in_ok-first.ensures.1 c.args.off c.args.other_off c.args.len passes c.plan-plan.result c.plan-plan.ensures.growth c.plan-plan.ensures.wants) (makes_none w path other c.args.off c.args.other_off c.args.len),
    )

pub returns-in-Ok-clause-need : goal.returns-in-Ok-clause-need
returns-in-Ok-clause-need g c need has =
    let path = c.args.path.now in
    let other = c.args.other.now in
    let found : ℕ × ℕ = (c.in_ok-first.first, c.in_ok-first.second) in
    let r = c.requires.mounted.rest in
    let passes = sym (by_sizes r path other found.0 found.1 c.in_ok-first.ensures.0 c.in_ok-first.ensures.1 c.args.off c.args.other_off c.args.len c.get-size.result c.get-other_size.result c.get-size.ensures c.get-other_size.ensures) ∙ c.in_ok-check_numbers.ensures in
    let made = plans r path other found.0 found.1 c.in_ok-first.ensures.0 c.in_ok-first.ensures.1 c.args.off c.args.other_off c.args.len passes c.plan-plan.result c.plan-plan.ensures.growth c.plan-plan.ensures.wants in
    only_need (only_plan r path other found.0 found.1 c.in_ok-first.ensures.0 c.in_ok-first.ensures.1 c.args.off c.args.other_off c.args.len passes) made need has ∙ sym (made.need (subst IsOpen (sym c.plan-plan.ensures.growth) tt))
