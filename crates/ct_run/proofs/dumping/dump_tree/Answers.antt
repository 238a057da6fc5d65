use Rattle.std.proofs.Common.{◌∙◌, sym, subst}
use Rattle.ct_run.specs.Dumps.{WroteDump}
use Rattle.ct_run.specs.Ends.{IsServed}
use Rattle.ct_run.proofs.Written.{dump_cause, dump_served, wrote_dump}
use Rattle.ct_seen.proofs.Kept.{keeps_holds}
use Rattle.ct_run.proofs.dumping.dump_tree.Goals as goal

pub dump_of-requires : goal.dump_of-requires
dump_of-requires g c = let stands = c.requires in keeps_holds c.args.fs.now.state stands.0 stands.1.0 stands.1.1

pub returns : goal.returns
returns g c = record {
  wrote = λ count t keeps.
      subst (λ s. WroteDump s t (g.O.Sink.written c.args.out.now) (g.O.Sink.written c.dump_of.new.out)) (sym c.dump_status.ensures)
      (wrote_dump c.dump_of.result t (g.O.Sink.written c.args.out.now) (g.O.Sink.written c.dump_of.new.out) (c.dump_of.ensures.text count t keeps));
  served = subst IsServed (sym c.dump_status.ensures) (dump_served c.dump_of.result);
  write_fault = λ is. dump_cause c.dump_of.result _ _ c.dump_of.ensures.cause (sym c.dump_status.ensures ∙ is);
}
