use Rattle.ct_path.proofs.Sounds.{from_one, to_most}
use Rattle.ct_learn.proofs.Living.{few}
use Rattle.ct_learn.proofs.pages.learn_file.Goals as goal

pub get-file-requires-clause-from : goal.get-file-requires-clause-from
get-file-requires-clause-from g c = from_one (g.D.Pm.words c.args.dev.now) c.requires.rest.sound (few c.requires.rest) c.in-Some.number c.in-Some.ensures.live

pub get-file-requires-clause-to : goal.get-file-requires-clause-to
get-file-requires-clause-to g c = to_most (g.D.Pm.words c.args.dev.now) c.requires.rest.sound (few c.requires.rest) c.in-Some.number c.in-Some.ensures.live
