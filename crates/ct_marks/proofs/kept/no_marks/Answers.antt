use Rattle.std.proofs.Common.{◌≡◌, ℕ, List, replicate, ap, ◌∙◌}
use Rattle.ct_marks.specs.Marks.{is_marked}
use Rattle.ct_marks.proofs.Marking.{marked_none}
use Rattle.ct_marks.proofs.kept.no_marks.Goals as goal

pub returns-in-Ok-clause-blank : goal.returns-in-Ok-clause-blank
returns-in-Ok-clause-blank c =
    let items : c.in-Ok.marks.items ≡ replicate c.args.pages 0 = c.in-Ok.ensures.items_if_clones_equal (λ y e. e) in
    λ q. ap (λ (xs : List ℕ). is_marked xs q) items ∙ marked_none c.args.pages q
