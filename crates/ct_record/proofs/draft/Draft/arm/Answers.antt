use Rattle.std.proofs.Common.{sym, subst}
use Rattle.ct_record.specs.Record.{IsAll}
use Rattle.ct_record.specs.Seen.{pairs_of, words_under}
use Rattle.ct_record.proofs.Moments.{each_settled}
use Rattle.ct_record.proofs.draft.Draft.arm.Goals as goal

pub returns-in-Ok-clause-all : goal.returns-in-Ok-clause-all
returns-in-Ok-clause-all g c = subst (λ d. IsAll (pairs_of c.args.self) (words_under c.args.self) (g.D.Pm.words d)) (sym c.of.ensures) c.in-Ok.ensures.armed.all

pub returns-in-Ok-clause-each : goal.returns-in-Ok-clause-each
returns-in-Ok-clause-each g c =
    each_settled (g.D.Pm.told c.of.result.dev) (g.D.Pm.words c.of.result.dev) (IsAll (pairs_of c.args.self) (words_under c.args.self)) (g.met.D.Pm.replays c.of.result.dev) c.of.result.settled (returns-in-Ok-clause-all g c)
