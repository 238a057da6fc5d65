use Rattle.std.proofs.Common.{◌≡◌, ◌≤◌, ◌+◌, length, refl, sym, ap, subst, ◌∙◌, inr, arith}
use Rattle.ct_record.specs.Seen.{Drafts, count_of, faults_under, pairs_of, words_under}
use Rattle.ct_record.proofs.Chain.{drafts_here, drafts_then}
use Rattle.ct_words.specs.Drafted.{PutFirst}
use Rattle.ct_words.proofs.Runs.{put_more, put_kept}
use Rattle.ct_words.proofs.run.add_changed.Goals as goal
use Rattle.ct_words.proofs.run.add_changed.Goals.{then-i-eq0+in_ok-add, else-i-eq0+else-value-values}

pub loop-i-init : goal.loop-i-init
loop-i-init g c = record { puts = record { does = λ words same. refl; names = λ word named. inr named }; some = λ z. absurd (omega (arith, z)); few = omega arith; drafts = drafts_here c.args.draft.now; faults = omega arith }

pub returns-in_err-add-clause-drafts : goal.returns-in_err-add-clause-drafts
returns-in_err-add-clause-drafts g c = drafts_then c.loop-i.invariant.drafts c.add.ensures.drafts

pub loop-i-preserved : goal.loop-i-preserved
loop-i-preserved g c =
    let v = c.loop-i.invariant in
    let old = pairs_of c.args.draft.now in
    let i = c.loop-i.i in
    elim c.if-i-eq0.branch [
      | then-i-eq0+in_ok-add w ↦
          let is = ap pairs_of w.draft-is ∙ w.in_ok-add.ensures.added in
          let count = ap count_of w.draft-is in
          let faults = ap faults_under w.draft-is in
          record {
            puts = subst (λ ps. PutFirst c.args.place c.args.values.now (i + 1) (words_under c.args.draft.now) old ps) (sym is) (put_more v.puts);
            some = λ z. omega (arith, count, w.in_ok-add.ensures.count, v.drafts.more);
            few = omega (arith, count, w.in_ok-add.ensures.count, v.few);
            drafts = subst (λ d. Drafts c.args.draft.now d) (sym w.draft-is) (drafts_then v.drafts w.add.ensures.drafts);
            faults = omega (arith, faults, v.faults, w.add.ensures.cause.later);
          }
      | else-i-eq0+else-value-values w ↦
          let is = ap pairs_of w.draft-is in
          let count = ap count_of w.draft-is in
          let faults = ap faults_under w.draft-is in
          let low : 16896 ≤ c.args.place + i = omega (arith, c.requires.low) in
          record {
            puts = subst (λ ps. PutFirst c.args.place c.args.values.now (i + 1) (words_under c.args.draft.now) old ps) (sym is)
                (put_kept v.puts (words_under c.loop-i.draft) v.drafts.same low (sym w.value.ensures ∙ w.if-value-values.false));
            some = λ z. omega (arith, count, v.some (omega (arith, w.if-i-eq0.false)));
            few = omega (arith, count, v.few);
            drafts = subst (λ d. Drafts c.args.draft.now d) (sym w.draft-is) v.drafts;
            faults = omega (arith, faults, v.faults);
          }
    ]

pub returns-clause-puts : goal.returns-clause-puts
returns-clause-puts g c =
    let values = c.args.values.now in
    let all : c.loop-i.i ≡ length values = omega (arith, c.loop-i.auto.i-end, c.loop-i-test.false) in
    subst (λ n. PutFirst c.args.place values n (words_under c.args.draft.now) (pairs_of c.args.draft.now) (pairs_of c.loop-i.draft)) all c.loop-i.invariant.puts
