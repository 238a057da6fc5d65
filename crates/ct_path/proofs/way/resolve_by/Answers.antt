use Rattle.ct_path.proofs.Answered.{resolved_by}
use Rattle.ct_path.proofs.Sounds.{live_if_ok}
use Rattle.ct_path.proofs.way.resolve_by.Goals as goal

pub returns-in-Some-clause-resolves : goal.returns-in-Some-clause-resolves
returns-in-Some-clause-resolves g c =
    resolved_by c.args.path.now c.in-Some.names c.follow.result c.in-Some.ensures c.follow.ensures.text c.follow.ensures.follows

pub returns-in-Some-clause-live : goal.returns-in-Some-clause-live
returns-in-Some-clause-live g c =
    live_if_ok (g.D.Pm.words c.args.dev.now) c.requires.sound c.requires.most (λ i. i) c.follow.result c.follow.ensures.live
