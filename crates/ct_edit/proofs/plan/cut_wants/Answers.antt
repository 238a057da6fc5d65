use Rattle.std.proofs.Common.{arith}
use Rattle.ct_base.specs.Inode.{part}
use Rattle.ct_call.proofs.Enlarged.{part_high}
use Rattle.ct_edit.proofs.plan.cut_wants.Goals as goal

pub side_wants-requires-clause-first : goal.side_wants-requires-clause-first
side_wants-requires-clause-first c = let high = part_high (part c.args.inode) c.requires.placed in let less = c.requires.less in omega (arith, high, less)
