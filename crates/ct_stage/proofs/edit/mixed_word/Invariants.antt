use Rattle.ct_stage.proofs.Edits.{MixedTo}
use Rattle.ct_stage.proofs.edit.mixed_word.Given as goal

abbrev pub invariant-loop-i : goal.invariant-loop-i
invariant-loop-i l = MixedTo l.edit l.a l.old l.i l.bytes
