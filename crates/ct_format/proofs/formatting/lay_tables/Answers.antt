use Rattle.std.proofs.Common.{◌*◌, arith}
use Rattle.ct_format.specs.Formatting.{format_word}
use Rattle.ct_format.proofs.Runs.{lays_wider, part_lays, laid_page, page_lays, page_laid}
use Rattle.ct_format.proofs.formatting.lay_tables.Goals as goal

pub returns-in_err-lay-clause-only : goal.returns-in_err-lay-clause-only
returns-in_err-lay-clause-only g c =
    let page = c.loop-page.page in
    let mid = g.D.Pm.words c.loop-page.dev in
    let words = g.D.Pm.words c.lay.new.dev in
    let run = part_lays (page * 512) 512 c.page_words.result c.page_words.ensures.length mid words (g.D.Pm.told c.loop-page.dev) (g.D.Pm.told c.lay.new.dev) c.lay.result c.lay.ensures.words c.lay.ensures.err c.lay.ensures.quiet c.lay.ensures.made in
    lays_wider (λ w is. (is.0, omega (arith, is.0, is.1))) (page_lays c.loop-page.invariant.from c.loop-page.invariant.only run)

pub loop-page-preserved : goal.loop-page-preserved
loop-page-preserved g c =
    let page = c.loop-page.page in
    let values = format_word c.args.pages c.args.inodes in
    let mid = g.D.Pm.words c.loop-page.dev in
    let words = g.D.Pm.words c.lay.new.dev in
    let run = part_lays (page * 512) 512 c.page_words.result c.page_words.ensures.length mid words (g.D.Pm.told c.loop-page.dev) (g.D.Pm.told c.lay.new.dev) c.lay.result c.lay.ensures.words c.lay.ensures.err c.lay.ensures.quiet c.lay.ensures.made in
    record {
      from = omega arith;
      only = page_lays c.loop-page.invariant.from c.loop-page.invariant.only run;
      laid = page_laid page c.loop-page.invariant.laid run
          (laid_page (page * 512) c.page_words.result c.page_words.ensures.length mid words (g.D.Pm.told c.loop-page.dev) (g.D.Pm.told c.lay.new.dev) values c.page_words.ensures.words c.in_ok-lay.ensures.words c.in_ok-lay.ensures.back c.in_ok-lay.ensures.still_back);
      later = omega (arith, c.loop-page.invariant.later, c.lay.ensures.cause.later);
    }
