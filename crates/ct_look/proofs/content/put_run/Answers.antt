use Rattle.ct_look.proofs.Filling.{fills_run}
use Rattle.std.proofs.Common.{refl}
use Rattle.ct_look.proofs.content.put_run.Goals as goal

pub returns : goal.returns
returns g c =
    fills_run (g.D.Pm.words c.args.dev.now) c.args.buf.now c.put_bytes.new.buf c.put_words.new.buf c.put_bytes-2.new.buf c.args.page c.args.from c.args.place c.args.count c.min-head.result _ _ c.min-head.ensures refl refl
    c.put_bytes.ensures c.put_words.ensures c.put_bytes-2.ensures
