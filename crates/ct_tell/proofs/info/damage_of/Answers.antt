use Rattle.ct_tell.proofs.Judging.{has_head}
use Rattle.ct_tell.proofs.info.damage_of.Goals as goal

pub pairs_of-requires : goal.pairs_of-requires
pairs_of-requires g c = has_head (g.D.Pm.words c.args.image.now) c.args.rule c.requires c.if-rule-lt8.false
