use Rattle.std.proofs.Common.{◌∙◌, ap, Some}
use Rattle.ct_inode.proofs.Loaded.{IsThere, there_words, there_on, none_walked}
use Rattle.ct_inode.proofs.read.first_word.Given.{Over}
use Rattle.ct_inode.proofs.read.first_word.Goals as goal

-- where the walk led
there : (g : Over) (c : goal.After-number g) → IsThere (g.D.Pm.words c.args.dev.now) c.args.n c.place.result c.number.result
there g c =
    record {
      tables = c.requires.tables;
      few = c.requires.to;
      at = c.place.ensures;
      walked = ap (λ p. Some p) c.number.ensures ∙ c.in_ok-page.ensures.exact;
    }

pub returns-in_err-page-clause-none : goal.returns-in_err-page-clause-none
returns-in_err-page-clause-none g c =
    rw c.from_residual.ensures (none_walked (g.D.Pm.words c.args.dev.now) c.args.n c.place.result c.place.ensures c.requires.to c.in_err-page.ensures.exact)

pub returns-clause-shown : goal.returns-clause-shown
returns-clause-shown g c = there_words (there g c)

pub returns-clause-on_device : goal.returns-clause-on_device
returns-clause-on_device g c = there_on (there g c)
