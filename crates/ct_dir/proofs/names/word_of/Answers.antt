use Rattle.std.proofs.Common.{get_or}
use Rattle.ct_state.proofs.Bytes.{little-eight}
use Rattle.ct_dir.proofs.names.word_of.Goals as goal

pub returns : goal.returns
returns c =
    little-eight (λ k. get_or c.args.name.now k 0) c.args.from _ _ _ _ _ _ _ _ c.byte_of.ensures c.byte_of-2.ensures c.byte_of-3.ensures c.byte_of-4.ensures c.byte_of-5.ensures c.byte_of-6.ensures c.byte_of-7.ensures c.byte_of-8.ensures
    _ c.from_le_bytes.ensures
