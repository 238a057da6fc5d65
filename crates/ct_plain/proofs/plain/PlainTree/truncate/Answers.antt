use Rattle.std.proofs.Common.{◌∙◌, ap, arith, length}
use Rattle.ct_tree.specs.declared.call.Refusal.TheVariants.{TooBig}
use Rattle.ct_tree.proofs.Ordered.{not_above, resized_length}
use Rattle.ct_plain.proofs.plain.PlainTree.truncate.Goals as goal

pub set_file-requires-clause-short : goal.set_file-requires-clause-short
set_file-requires-clause-short c =
    let long = ap length c.in_ok-data.ensures ∙ resized_length c.args.len c.in_ok-old.old.now in
    let short = not_above c.args.len _ TooBig c.in_ok-check_limit.ensures in
    omega (arith, long, short)
