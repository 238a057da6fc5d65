use Rattle.ct_base.specs.Path.{texts}
use Rattle.ct_tree.specs.declared.call.Refusal.TheVariants.{TooBig}
use Rattle.ct_tree.proofs.Ordered.{written_short}
use Rattle.ct_plain.proofs.plain.PlainTree.write.Goals as goal

pub set_file-requires-clause-short : goal.set_file-requires-clause-short
set_file-requires-clause-short c =
    written_short c.self.inside.root (texts c.deref.result.now) c.in_ok-old.old.now c.args.off c.args.bytes.now c.in_ok-data.data.items TooBig c.self.invariant.0 c.in_ok-old.ensures c.in_ok-check_end.ensures c.in_ok-data.ensures
