use Rattle.std.proofs.Common.{subst}
use Rattle.ct_dump.specs.Dumped.{placed_below}
use Rattle.ct_dump.specs.Dumps.{DumpAppends}
use Rattle.ct_seen.proofs.Kept.{held_is}
use Rattle.ct_seen.proofs.live.dump_of.Goals as goal

pub returns-clause-text : goal.returns-clause-text
returns-clause-text g c = λ count t keeps.
    subst (λ u. DumpAppends (g.O.Sink.written c.args.out.now) (g.O.Sink.written c.dump.new.out) c.dump.result (placed_below u))
    (held_is c.args.fs.now.state c.dump-arg-1.given.0 count t keeps) c.dump.ensures.text
