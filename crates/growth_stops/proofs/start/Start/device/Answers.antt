use Rattle.std.proofs.Common.{Some, List, ℕ, refl, sym, subst, ◌∙◌}
use Rattle.ct_frames.specs.Agrees.{Agrees}
use Rattle.ct_commit.specs.Rest.{IsAtRest, IsMounted, IsUnstaged}
use Rattle.pm_trace.specs.Meaning.{history, words_of}
use Rattle.pm_trace.specs.declared.trace.TracePm.{TracePm}
use Rattle.growth_stops.proofs.Growable.{agrees_alike, mounted}
use Rattle.growth_stops.proofs.start.Start.device.Goals as goal

pub at_rest-requires : goal.at_rest-requires
at_rest-requires c =
    let start = c.self.invariant in
    let frames = c.in_ok-frames.frames in
    let is = c.in-Ok-new.ensures.words ∙ c.in-Ok.ensures.items_if_clones_equal (λ x y same. same) ∙ c.deref.ensures.value in
    let pages = c.in_ok-frames.ensures ∙ sym (start.agrees.pages ∙ start.pages) in
    let agrees = agrees_alike start.agrees pages (c.if-not-are_alike.ensures refl) in
    subst (λ (d : TracePm). IsMounted (words_of d) (Some (history d)) frames) (sym c.new-in-Ok-new.ensures.dev)
    (mounted (subst IsAtRest (sym is) start.rest) (subst IsUnstaged (sym is) start.unstaged) c.in-Ok-new.ensures.settled (subst (λ (w : List ℕ). Agrees w frames) (sym is) agrees))
