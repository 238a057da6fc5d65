use Rattle.std.proofs.Common.{◌≡◌, ◌-◌, ◌∙◌, ℕ, ap, inl, inr, subst, arith}
use Rattle.std.proofs.lemmas.Bool.{cases_eq}
use Rattle.ct_pm.specs.Device.{with_steps, flushes_of, WrittenBack}
use Rattle.ct_pm.proofs.Told.{flushed}
use Rattle.ct_pm.proofs.Made.{makes_step}
use Rattle.ct_pm.proofs.Laying.{flushed_more}
use Rattle.ct_pm.proofs.Quiet.{back_flush, back_flushed}
use Rattle.ct_pm.proofs.writes.flush_lines.Goals as goal

pub loop-line-preserved : goal.loop-line-preserved
loop-line-preserved g c =
    let so_far = c.loop-line.invariant in
    record {
      words = c.flush.ensures.words ∙ so_far.words;
      quiet = flushed so_far.quiet c.flush.ensures.step;
      from = omega (arith, so_far.from);
      within = omega (arith, so_far.from);
      steps = flushed_more (g.D.Pm.told c.args.dev.now) so_far.from so_far.steps c.in_ok-flush.ensures.step;
      back = λ line from below. elim (cases_eq c.loop-line.line line) [
        | inl here ↦ subst (WrittenBack (g.D.Pm.told c.flush.new.self)) here (back_flushed c.in_ok-flush.ensures.step)
        | inr ne ↦ back_flush c.flush.result line c.flush.ensures.step (so_far.back line from (omega arith))
      ];
      others = λ line back. back_flush c.flush.result line c.flush.ensures.step (so_far.others line back);
      made = makes_step c.flush.result so_far.made c.flush.ensures.step tt;
      faults = omega (arith, so_far.faults, c.flush.ensures.cause.later);
    }

pub returns-clause-steps : goal.returns-clause-steps
returns-clause-steps g c =
    let so_far = c.loop-line.invariant in
    let all : c.loop-line.line - c.args.from ≡ c.args.to - c.args.from = omega (arith, so_far.from, so_far.within) in
    so_far.steps ∙ ap (λ (n : ℕ). with_steps (flushes_of c.args.from n) (g.D.Pm.told c.args.dev.now)) all
