use Rattle.std.proofs.Common.{◌≢◌, ap, ◌∙◌}
use Rattle.ct_base.specs.declared.inode.Inode.{Inode}
use Rattle.ct_base.specs.Inode.{inode}
use Rattle.ct_base.specs.View.{inode_count, view}
use Rattle.ct_naming.proofs.Naming.{no_slot}
use Rattle.ct_naming.proofs.Visiting.{no_zero, visit_end}
use Rattle.ct_naming.proofs.reach.visit_one.Goals as goal

pub returns-then-dir-ne-DIRECTORY_KIND-clause-visits : goal.returns-then-dir-ne-DIRECTORY_KIND-clause-visits
returns-then-dir-ne-DIRECTORY_KIND-clause-visits g c = λ so_far.
    let w = g.D.Pm.words c.args.dev.now in
    let kind = ap (λ (f : Inode). f.kind) c.get-dir.ensures in
    let other : (inode (view w) c.args.n).kind ≢ 2 = λ two. c.if-dir-ne-DIRECTORY_KIND.true (kind ∙ two) in
    visit_end (no_zero (view w) (inode_count w)) (λ k from s. no_slot (view w) (inode_count w) c.args.n c.requires.number other k s) so_far
