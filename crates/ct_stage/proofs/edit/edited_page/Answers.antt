use Rattle.std.proofs.Common.{◌+◌, ◌-◌, ◌*◌, arith}
use Rattle.std.specs.Prelude.{slice_index}
use Rattle.ct_base.specs.View.{view}
use Rattle.ct_stage.proofs.Edits.{word_in_edit}
use Rattle.ct_stage.proofs.edit.edited_page.Goals as goal

pub returns-then-at-edit-clause-words : goal.returns-then-at-edit-clause-words
returns-then-at-edit-clause-words g c = λ k lt.
    word_in_edit (view (g.D.Pm.words c.args.dev.now)) c.args.edit.now (c.args.at + 8 * k) (c.args.at - c.args.edit.now.from + 8 * k) (slice_index c.given_page.result k)
    (omega (arith, c.if-edit-at.true)) (omega (arith, c.if-at-edit.true, lt)) (omega (arith, c.if-edit-at.true)) (c.given_page.ensures.words k lt)
