use Rattle.std.proofs.Common.{List, ℕ, [], subst}
use Rattle.std.specs.Prelude.{Some}
use Rattle.ct_format.specs.Formatting.{IsFormatImage}
use Rattle.ct_fs.specs.Mounts.{fs_dev}
use Rattle.ct_pm.specs.Device.{LeavesOnly}
use Rattle.ct_pm.specs.Images.{History}
use Rattle.pm_outbox.specs.Outbox.{history}
use Rattle.msa.proofs.Mounted.{made}
use Rattle.msa.proofs.opening.format_into.Goals as goal

pub returns-in-Ok : goal.returns-in-Ok
returns-in-Ok c = λ start begins words.
    let moments = subst (λ (h : History). LeavesOnly (Some h) (Some (history (fs_dev c.in-Ok.fs))) (IsFormatImage c.args.dev.words.items)) begins c.in-Ok.ensures.any_moment in
    made start _ c.in-Ok.fs c.in-Ok.ensures.keeps
    (subst (λ (ws : List ℕ). LeavesOnly (Some (record { start = start; steps = [] })) (Some (history (fs_dev c.in-Ok.fs))) (IsFormatImage ws)) words moments) _ _ c.fs_into.ensures
