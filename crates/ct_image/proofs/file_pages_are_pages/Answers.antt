use Rattle.std.proofs.Common.{◌≡◌, sym, ap, ◌∙◌, arith}
use Rattle.ct_image.proofs.Steps.{next-bounds}
use Rattle.ct_image.proofs.file_pages_are_pages.Goals as goal

pub returns : goal.returns
returns c = λ img page file.
    let bounds = next-bounds img _ _ (λ none. file.some (sym file.is ∙ none)) in
    omega (arith, bounds.0, bounds.1, file.is)
