use Rattle.std.proofs.Common.{◌≡◌, ◌∙◌, Ok, ap, length, subst}
use Rattle.ct_look.specs.Looks.{IsLook}
use Rattle.ct_tree.specs.Checks.{at}
use Rattle.ct_tree.specs.Step.{list, listed_in, refusal}
use Rattle.ct_shell.specs.Shows.{entries_of}
use Rattle.ct_shell.proofs.Names.{entries_told}
use Rattle.ct_shell.proofs.list.entries_at.Goals as goal

pub returns-in-Ok-Dir : goal.returns-in-Ok-Dir
returns-in-Ok-Dir g c was is t st =
    let path = c.args.path.now in
    subst (λ r. IsLook (refusal t (list path)) (λ count. count ≡ length (listed_in (at t path))) (entries_of r)) (c.in-Ok-Dir.is ∙ ap Ok c.in-Ok-Dir.field-0-is)
    (entries_told t path c.stat.result (c.stat.ensures.answer was is t st))

pub returns-in-Err : goal.returns-in-Err
returns-in-Err g c was is t st =
    let path = c.args.path.now in
    subst (λ r. IsLook (refusal t (list path)) (λ count. count ≡ length (listed_in (at t path))) (entries_of r)) c.in-Err.is
    (entries_told t path c.stat.result (c.stat.ensures.answer was is t st))
