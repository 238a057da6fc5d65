use Rattle.std.proofs.Common.{arith}
use Rattle.std.proofs.lemmas.List.{ext_get_or}
use Rattle.ct_pm.specs.Ram.{words_of}
use Rattle.ct_tell.proofs.copy.copy_of.Goals as goal

pub returns : goal.returns
returns g c =
    let size = c.loop-word.invariant.size in
    let whole = g.met.D.Pm.whole_pages c.args.image.now in
    let past = c.loop-word-test.false in
    let pages = c.pages-pages.ensures in
    ext_get_or 0 (words_of c.loop-word.copy) (g.D.Pm.words c.args.image.now) size (λ k less. c.loop-word.invariant.same k (omega (arith, size, whole, past, pages, less)))
