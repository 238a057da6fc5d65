use Rattle.std.proofs.Common.{sym, subst}
use Rattle.ct_base.specs.Bytes.{PutAppends}
use Rattle.ct_script.proofs.Puts.{data_line}
use Rattle.ct_script.proofs.reply.put_data.Goals as goal

pub returns-in-len1-up-clause-bytes : goal.returns-in-len1-up-clause-bytes
returns-in-len1-up-clause-bytes g c =
    subst (PutAppends (g.O.Sink.written c.args.out.now) (g.O.Sink.written c.put_bytes.new.out) c.put_bytes.result) (sym (data_line c.args.bytes.now c.in-len1-up.len_at_least)) c.put_bytes.ensures.bytes
