use Rattle.std.proofs.Common.{refl}
use Rattle.ct_base.specs.View.{inode_count, view}
use Rattle.ct_naming.proofs.Naming.{all_named, count_start, named_all}
use Rattle.ct_naming.proofs.named.are_named.Goals as goal

pub mark_all-requires-clause-start : goal.mark_all-requires-clause-start
mark_all-requires-clause-start g c = let w = g.D.Pm.words c.args.dev.now in count_start (view w) (inode_count w) c.in_ok-marks.marks.items c.in_ok-marks.ensures.blank

pub returns : goal.returns
returns g c =
    let w = g.D.Pm.words c.args.dev.now in
    let counts = c.if-not-mark_all.ensures.counts refl in
    (λ on. named_all (view w) (inode_count w) counts (c.are_marked.ensures.0 on), λ named. c.are_marked.ensures.1 (all_named (view w) (inode_count w) counts named))
