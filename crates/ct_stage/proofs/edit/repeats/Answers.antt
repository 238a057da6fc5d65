use Rattle.std.proofs.Common.{arith}
use Rattle.ct_stage.proofs.Edits.{same_pages}
use Rattle.ct_stage.proofs.edit.repeats.Goals as goal

pub returns-in-Same : goal.returns-in-Same
returns-in-Same c _ b k lt =
    same_pages b c.args.edit.now c.in-Same.field-0 c.args.at k c.in-Same.is c.requires.low (omega (arith, c.if-at-edit.false)) (omega (arith, c.if-edit-at.false)) lt
