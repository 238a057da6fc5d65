use Rattle.std.proofs.Common.{arith, ◌%◌, ◌/◌}
use Rattle.ct_walk.proofs.Entries.{word_there}
use Rattle.ct_walk.proofs.steps.load_at.Goals as goal

pub load-requires : goal.load-requires
load-requires g c =
    omega (arith, word_there (g.D.Pm.words c.args.dev.now) 4 c.in-Some.page (c.get.result % 4096 / 8) c.requires.tables c.in-Some.ensures.page (omega arith), c.number.ensures)
