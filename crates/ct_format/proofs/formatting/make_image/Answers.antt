use Rattle.std.proofs.Common.{◌∙◌, ◌*◌, ap, subst, sym, arith}
use Rattle.ct_format.specs.Made.{IsNew}
use Rattle.ct_format.proofs.Fresh.{is_new, new_mounted}
use Rattle.ct_format.proofs.Moments.{none_made}
use Rattle.ct_format.proofs.formatting.make_image.Goals as goal

pub returns-in-Err-clause-moments : goal.returns-in-Err-clause-moments
returns-in-Err-clause-moments g c = none_made (g.D.Pm.words c.args.dev) (g.D.Pm.told c.args.dev) (g.met.D.Pm.replays c.args.dev) c.requires.settled

pub returns-in-Ok-write_image-clause-made : goal.returns-in-Ok-write_image-clause-made
returns-in-Ok-write_image-clause-made g c =
    let pages = c.pages-pages.result in
    let size = c.write_image.ensures.others.size ∙ g.met.D.Pm.whole_pages c.args.dev ∙ ap (λ m. 512 * m) (sym c.pages-pages.ensures) in
    subst (λ m. IsNew (g.D.Pm.words c.write_image.new.dev) c.in-Ok.frames m c.args.inodes) c.pages-pages.ensures
    (is_new c.in-Ok-write_image.ensures.formatted (omega arith) (omega arith) size c.requires.two c.requires.few c.in-Ok.ensures)

pub invariant_of-result : goal.invariant_of-result
invariant_of-result g c =
    let pages = c.pages-pages.result in
    let size = c.write_image.ensures.others.size ∙ g.met.D.Pm.whole_pages c.args.dev ∙ ap (λ m. 512 * m) (sym c.pages-pages.ensures) in
    new_mounted (is_new c.in-Ok-write_image.ensures.formatted (omega arith) (omega arith) size c.requires.two c.requires.few c.in-Ok.ensures) c.in-Ok-write_image.ensures.settled
