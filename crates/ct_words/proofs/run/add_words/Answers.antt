use Rattle.std.proofs.Common.{◌≡◌, suc, ◌+◌, ◌∷◌, ◌++◌, refl, ap, ◌∙◌, arith}
use Rattle.std.specs.Prelude.{slice_index}
use Rattle.ct_base.specs.Words.{pairs_to}
use Rattle.ct_record.specs.Seen.{pairs_of}
use Rattle.ct_record.proofs.Chain.{drafts_here, drafts_then}
use Rattle.ct_words.proofs.run.add_words.Goals as goal

pub loop-i-init : goal.loop-i-init
loop-i-init g c = record { added = refl; count = omega arith; drafts = drafts_here c.args.draft.now; faults = omega arith }

pub returns-in_err-add-clause-drafts : goal.returns-in_err-add-clause-drafts
returns-in_err-add-clause-drafts g c = drafts_then c.loop-i.invariant.drafts c.add.ensures.drafts

pub loop-i-preserved : goal.loop-i-preserved
loop-i-preserved g c =
    let i = c.loop-i.i in
    let next : suc i ≡ i + 1 = omega arith in
    record {
      added = c.in_ok-add.ensures.added
          ∙ ap (λ ps. record { word = c.args.place + i; value = slice_index c.args.values.now i } ∷ ps) c.loop-i.invariant.added
          ∙ ap (λ k. pairs_to c.args.place c.args.values.now k ++ pairs_of c.args.draft.now) next;
      count = omega (arith, c.in_ok-add.ensures.count, c.loop-i.invariant.count);
      drafts = drafts_then c.loop-i.invariant.drafts c.add.ensures.drafts;
      faults = omega (arith, c.loop-i.invariant.faults, c.add.ensures.cause.later);
    }
