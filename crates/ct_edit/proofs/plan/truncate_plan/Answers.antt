use Rattle.std.proofs.Common.{◌<◌, ap, ◌∙◌, arith}
use Rattle.ct_base.specs.Plan.{Plan, truncate_plan}
use Rattle.ct_base.specs.View.{inode_count, view}
use Rattle.ct_base.specs.Wants.{missing}
use Rattle.ct_edit.proofs.Growths.{cut_need, less_is, staying_plan}
use Rattle.ct_edit.proofs.plan.truncate_plan.Goals as goal

pub returns : goal.returns
returns g c =
    let w = g.D.Pm.words c.args.dev.now in
    let f = c.args.inode in
    let len = c.args.len in
    let less : len < f.size = let le = c.if-len-inode.false in let other = c.if-len-inode-2.false in omega arith in
    staying_plan w (truncate_plan (view w) (inode_count w) f len) c.plan_with-2.result (ap (λ (p : Plan). p.growth) (less_is (view w) (inode_count w) f len less c.if-len-eq0.false)) c.plan_with-2.ensures.growth
    (ap (missing w) (c.plan_with-2.ensures.wants ∙ c.cut_wants.ensures) ∙ cut_need (view w) (inode_count w) f len w c.requires.can.placed less c.if-len-eq0.false)
