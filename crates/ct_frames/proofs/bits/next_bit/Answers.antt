use Rattle.std.proofs.Common.{◌≡◌, ◌/◌, get_or, sym, ap, ◌∙◌, inl, inr, arith}
use Rattle.std.proofs.lemmas.Bool.{cases_eq, cases_lt}
use Rattle.std.proofs.lemmas.List.{get_or_past}
use Rattle.ct_frames.specs.Free.{is_set}
use Rattle.ct_frames.proofs.Masks.{is_set-zero}
use Rattle.ct_frames.proofs.bits.next_bit.Goals as goal

pub loop-page-preserved : goal.loop-page-preserved
loop-page-preserved c =
    let words = c.args.words.now in
    let page = c.loop-page.page in
    let over = c.step_over-page.ensures in
    record {
      low = omega (arith, c.loop-page.invariant.low);
      passed = λ q from to. elim (cases_lt q page) [
        | inl before ↦ c.loop-page.invariant.passed q from before
        | inr ge ↦ elim (cases_eq q page) [
          | inl here ↦ ap (is_set words) here ∙ sym c.has_bit.ensures ∙ c.if-has_bit.false
          | inr other ↦
              let same : q / 64 ≡ page / 64 = omega (arith, over.within) in
              is_set-zero words q (ap (λ k. get_or words k 0) same ∙ over.zeros (omega (arith, other)))
        ]
      ];
    }

pub returns-clause-none : goal.returns-clause-none
returns-clause-none c = λ q from.
    let words = c.args.words.now in
    elim (cases_lt q c.loop-page.page) [
      | inl before ↦ c.loop-page.invariant.passed q from before
      | inr past ↦ is_set-zero words q (get_or_past words (q / 64) 0 (omega (arith, c.loop-page-test.false)))
    ]
