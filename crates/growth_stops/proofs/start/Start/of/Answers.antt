use Rattle.std.proofs.Common.{List, ℕ, length, ap, sym, subst, ◌∙◌, arith}
use Rattle.std.specs.Prelude.{slice_index}
use Rattle.ct_frames.specs.Agrees.{Agrees}
use Rattle.ct_commit.specs.Rest.{IsAtRest, IsUnstaged}
use Rattle.pm_trace.specs.Meaning.{words_of}
use Rattle.pm_trace.specs.declared.trace.TracePm.{TracePm}
use Rattle.growth_stops.proofs.start.Start.of.Goals as goal

pub invariant_of-result : goal.invariant_of-result
invariant_of-result c =
    let is = c.into_words.ensures ∙ ap words_of c.into_inner.ensures in
    record {
      rest = subst IsAtRest (sym is) c.into_parts-dev.ensures.rest;
      unstaged = subst IsUnstaged (sym is) c.into_parts-dev.ensures.unstaged;
      agrees = subst (λ (w : List ℕ). Agrees w c.into_parts-dev.result.1) (sym is) c.into_parts-dev.ensures.agrees;
      size = omega (arith, ap length c.into_words.ensures, c.into_inner.result.whole_pages, ap (λ (d : TracePm). d.pages) c.into_inner.ensures, c.pages.ensures, c.if-pages-ne-PAGES.false);
      pages = ap (λ (w : List ℕ). slice_index w 2) is ∙ sym c.load.ensures ∙ c.if-load-ne-PAGES.false;
    }
