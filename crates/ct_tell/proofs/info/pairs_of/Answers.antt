use Rattle.std.proofs.Common.{◌∙◌, sym}
use Rattle.ct_tell.proofs.Judging.{pairs_counted, short_counted}
use Rattle.ct_tell.proofs.info.pairs_of.Goals as goal

pub returns-then-long-eq0 : goal.returns-then-long-eq0
returns-then-long-eq0 g c = c.load.ensures ∙ sym (short_counted (g.D.Pm.words c.args.dev.now) (sym c.load-long.ensures ∙ c.if-long-eq0.true))

pub returns : goal.returns
returns g c = c.load-long.ensures ∙ sym (pairs_counted (g.D.Pm.words c.args.dev.now) (λ z. c.if-long-eq0.false (c.load-long.ensures ∙ z)))
