use Rattle.ct_look.proofs.Filling.{fills_page}
use Rattle.std.proofs.Common.{arith}
use Rattle.ct_look.proofs.content.put_content.Goals as goal

pub pages-preserved : goal.pages-preserved
pages-preserved g c = record {
  within = omega (arith, c.min-more.ensures, c.pages-test.true);
  filled = fills_page (g.D.Pm.words c.args.dev.now) c.args.buf.now c.pages.buf c.put_page.new.buf c.args.from c.pages.done c.min-more.result c.in-Some.v c.in-Some.ensures.value c.pages.invariant.filled c.put_page.ensures;
}
