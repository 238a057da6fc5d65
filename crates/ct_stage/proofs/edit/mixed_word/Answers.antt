use Rattle.std.proofs.Common.{arith}
use Rattle.ct_stage.proofs.Edits.{mixed_none, mixed_more, mixed_all}
use Rattle.ct_stage.proofs.edit.mixed_word.Goals as goal

pub loop-i-init : goal.loop-i-init
loop-i-init c = mixed_none c.args.edit.now c.args.a c.args.old c.to_le_bytes-bytes.result c.to_le_bytes-bytes.ensures

pub loop-i-preserved : goal.loop-i-preserved
loop-i-preserved c = mixed_more c.loop-i.invariant c.loop-i-test.true c.edited_byte.ensures

pub returns : goal.returns
returns c = mixed_all c.loop-i.i c.loop-i.invariant (omega arith) c.from_le_bytes.ensures
