use Rattle.ct_mount.proofs.Judged.{first_head}
use Rattle.ct_tell.proofs.copy.mounted_copy.Goals as goal

pub returns-in-Err-clause-why : goal.returns-in-Err-clause-why
returns-in-Err-clause-why g c = first_head (g.D.Pm.words c.args.image.now) c.in-Err.rule c.in-Err.ensures.damage
