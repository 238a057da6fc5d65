use Rattle.std.proofs.Common.{arith}
use Rattle.ct_dir.proofs.Texts.{name_words-is}
use Rattle.ct_dir.proofs.names.name_words.Goals as goal

pub returns : goal.returns
returns c = name_words-is c.loop-k.words c.args.name.now c.loop-k.invariant.0 (λ k lt. c.loop-k.invariant.1 k (omega (arith, lt, c.loop-k-test.false)))
