use Rattle.std.proofs.Common.{◌∙◌, ◌-◌, sym, arith}
use Rattle.ct_image.proofs.Pairs.{newest_names, newest_other}
use Rattle.ct_record.proofs.pair.value_after.Goals as goal

pub returns-then-load-word : goal.returns-then-load-word
returns-then-load-word g c =
    c.load-then-load-word.ensures
    ∙ sym (newest_names c.args.from (c.pairs.left - 1) c.pairs.left (g.D.Pm.words c.args.dev.now) c.args.word (omega (arith, c.pairs-test.true)) (sym c.load.ensures ∙ c.if-load-word.true) c.requires.word)
    ∙ sym c.pairs.invariant.same

pub pairs-preserved : goal.pairs-preserved
pairs-preserved g c = record {
  within = omega (arith, c.pairs.invariant.within);
  same = c.pairs.invariant.same
      ∙ newest_other c.args.from (c.pairs.left - 1) c.pairs.left (g.D.Pm.words c.args.dev.now) c.args.word (omega (arith, c.pairs-test.true)) (λ is. c.if-load-word.false (c.load.ensures ∙ is));
}
