use Rattle.std.proofs.Common.{◌+◌, ◌-◌, ◌≤◌, ◌⊎◌, refl, inl, inr}
use Rattle.ct_stage.proofs.Edits.{word_in_edit, word_off_edit}
use Rattle.ct_stage.proofs.edit.edited_word.Goals.{then-a-edit-via-then-a-edit, then-a-edit-via-else-a-edit+then-edit-a}
use Rattle.ct_stage.proofs.edit.edited_word.Goals as goal

pub returns-then-a-edit : goal.returns-then-a-edit
returns-then-a-edit c = λ b word.
    let off : (c.args.a + 8 ≤ c.args.edit.now.from) ⊎ (c.args.edit.now.to ≤ c.args.a) =
    elim c.then-a-edit.branch [ then-a-edit-via-then-a-edit w ↦ inl w.if-a-edit.true | then-a-edit-via-else-a-edit+then-edit-a w ↦ inr w.if-edit-a.true ] in
    word_off_edit b c.args.edit.now c.args.a c.args.old off word.1

pub returns-then-a-edit-2 : goal.returns-then-a-edit-2
returns-then-a-edit-2 c = λ b word.
    word_in_edit b c.args.edit.now c.args.a (c.args.a - c.args.edit.now.from) c.given_word.result c.if-edit-a-2.true c.if-a-edit-2.true refl c.given_word.ensures
