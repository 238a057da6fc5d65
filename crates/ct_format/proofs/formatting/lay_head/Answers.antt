use Rattle.std.proofs.Common.{◌+◌, ◌<◌, ◌∙◌, ap, take, drop, arith}
use Rattle.ct_format.specs.Formatting.{format_word}
use Rattle.ct_format.proofs.Runs.{part_lays, part_laid, length-cut, at_cut}
use Rattle.ct_format.proofs.formatting.lay_head.Goals as goal

pub returns-clause-only : goal.returns-clause-only
returns-clause-only g c =
    let words = c.page_words-words.result in
    part_lays 1 511 (take 511 (drop 1 words)) (length-cut words c.page_words-words.ensures.length) (g.D.Pm.words c.args.dev.now) (g.D.Pm.words c.lay.new.dev) (g.D.Pm.told c.args.dev.now) (g.D.Pm.told c.lay.new.dev) c.lay.result c.lay.ensures.words c.lay.ensures.err c.lay.ensures.quiet c.lay.ensures.made

pub returns-clause-laid : goal.returns-clause-laid
returns-clause-laid g c =
    let words = c.page_words-words.result in
    let size = length-cut words c.page_words-words.ensures.length in
    part_laid 1 511 (take 511 (drop 1 words)) size (g.D.Pm.words c.args.dev.now) (g.D.Pm.words c.lay.new.dev) (g.D.Pm.told c.args.dev.now) (g.D.Pm.told c.lay.new.dev) (format_word c.args.pages c.args.inodes) c.lay.result
    (λ k lt.
    let small : k < 511 = omega (arith, lt, size) in
    at_cut words k small ∙ c.page_words-words.ensures.words (1 + k) (omega arith) ∙ ap (λ w. format_word c.args.pages c.args.inodes w) (omega arith))
    c.lay.ensures.words c.lay.ensures.back c.lay.ensures.still_back
