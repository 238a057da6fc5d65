use Rattle.std.proofs.Common.{arith}
use Rattle.ct_path.proofs.Sounds.{root_live}
use Rattle.ct_learn.proofs.Living.{few}
use Rattle.ct_learn.proofs.names.learn_names.Goals as goal

pub loop-name-init : goal.loop-name-init
loop-name-init g c = record { known = c.requires.known; live = root_live (g.D.Pm.words c.args.dev.now) c.requires.rest.sound (few c.requires.rest) (omega (arith, c.requires.rest.head.inodes.0)) }
