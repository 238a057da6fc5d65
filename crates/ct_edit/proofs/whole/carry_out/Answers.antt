use Rattle.std.proofs.Common.{◌≡◌, ℕ, Some, subst, sym}
use Rattle.std.specs.Prelude.{OnOk}
use Rattle.ct_record.specs.Seen.{device_behind}
use Rattle.ct_call.specs.Placed.{IsMoved}
use Rattle.ct_call.specs.Plans.{level_of}
use Rattle.ct_edit.specs.Edits.{IsReplaced}
use Rattle.ct_edit.specs.declared.edit.Task.{Task}
use Rattle.ct_edit.proofs.whole.carry_out.Goals as goal

pub returns-in-Write-clause-moved : goal.returns-in-Write-clause-moved
returns-in-Write-clause-moved g c =
    let result = c.write_file.result in
    subst (λ (k : Task). OnOk result ((level : ℕ) → level_of c.args.plan.now.growth ≡ Some level → IsMoved (IsReplaced k) (g.D.Pm.words c.args.dev) (g.D.Pm.words (device_behind result)) c.args.file level)) (sym c.in-Write.is)
    c.write_file.ensures.moved

pub returns-in-Resize-clause-moved : goal.returns-in-Resize-clause-moved
returns-in-Resize-clause-moved g c =
    let result = c.resize_file.result in
    subst (λ (k : Task). OnOk result ((level : ℕ) → level_of c.args.plan.now.growth ≡ Some level → IsMoved (IsReplaced k) (g.D.Pm.words c.args.dev) (g.D.Pm.words (device_behind result)) c.args.file level)) (sym c.in-Resize.is)
    c.resize_file.ensures.moved
