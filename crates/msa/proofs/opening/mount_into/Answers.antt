use Rattle.std.proofs.Common.{subst}
use Rattle.std.specs.Prelude.{Some}
use Rattle.ct_fs.specs.Mounts.{fs_dev}
use Rattle.ct_mount.specs.Mounting.{Recovers}
use Rattle.ct_pm.specs.Images.{History}
use Rattle.pm_outbox.specs.Outbox.{history, words_of}
use Rattle.msa.proofs.Mounted.{mounted}
use Rattle.msa.proofs.opening.mount_into.Goals as goal

pub returns-in-Ok : goal.returns-in-Ok
returns-in-Ok c =
    mounted (words_of c.args.dev) c.in-Ok.fs c.in-Ok.ensures.keeps
    (λ t lands. subst (λ (h : History). Recovers t (words_of c.args.dev) (Some h) (Some (history (fs_dev c.in-Ok.fs))) (words_of (fs_dev c.in-Ok.fs))) c.requires.begins (c.in-Ok.ensures.recovers t lands))
    _ _ c.in-Ok.ensures.judged c.fs_into.ensures
