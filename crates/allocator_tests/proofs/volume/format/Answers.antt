use Rattle.std.proofs.Common.{refl, sym, ◌∙◌, arith}
use Rattle.ct_image.proofs.Write.{cells, tables_new}
use Rattle.allocator_tests.proofs.Devices.{empty_tables, view_zero, marked_ready}
use Rattle.allocator_tests.proofs.volume.format.Goals as goal

pub ensure_page-requires-clause-tables : goal.ensure_page-requires-clause-tables
ensure_page-requires-clause-tables g c = empty_tables c.requires.empty

pub put_word-requires-2-clause-tables : goal.put_word-requires-2-clause-tables
put_word-requires-2-clause-tables g c = tables_new c.in_ok-put_word.ensures.words

pub put_word-requires-2-clause-there : goal.put_word-requires-2-clause-there
put_word-requires-2-clause-there g c none =
    c.in_ok-ensure_page.ensures.pages.there 687194767360 refl (sym (cells c.in_ok-put_word.ensures.words 4 167772160 (omega arith)) ∙ none)

pub returns-clause-ready : goal.returns-clause-ready
returns-clause-ready g c =
    let pages = c.in_ok-ensure_page.ensures.pages in
    let empty = c.requires.empty in
    marked_ready (record {
      none = view_zero (g.D.Pm.words c.args.dev) (g.D.Pm.words c.ensure_page.new.dev) empty pages.bytes;
      first = c.in_ok-put_word.ensures.words;
      second = c.in_ok-put_word-2.ensures.words;
    }) c.ensure_page.new.frames pages.agrees
    (pages.low 512 (omega arith) ∙ empty.zeros 512 (λ is. omega (arith, is)), pages.low 527 (omega arith) ∙ empty.zeros 527 (λ is. omega (arith, is)))
