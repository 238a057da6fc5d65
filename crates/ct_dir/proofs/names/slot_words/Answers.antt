use Rattle.std.proofs.Common.{arith}
use Rattle.ct_dir.proofs.Texts.{slot_words-is}
use Rattle.ct_dir.proofs.names.slot_words.Goals as goal

pub returns : goal.returns
returns c =
    let so_far = c.loop-k.invariant in
    slot_words-is c.loop-k.words c.args.inode c.args.name.now so_far.size so_far.head (λ k lt. so_far.words k (omega (arith, lt, c.loop-k-test.false)))
