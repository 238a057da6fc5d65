use Rattle.std.proofs.Common.{◌≡◌, ◌∙◌, sym, ap, subst}
use Rattle.ct_base.specs.Path.{texts}
use Rattle.ct_tree.specs.Resolve.{cut, HasParent}
use Rattle.ct_tree.proofs.Moved.{parent_stays}
use Rattle.ct_node.proofs.node.Node.moved.Goals as goal

pub insert-requires : goal.insert-requires
insert-requires c =
    let left : c.remove-node.new.self ≡ cut c.args.self.now (texts c.args.names.now) = c.remove-node.ensures.left ∙ ap (λ t. cut t (texts c.args.names.now)) c.in_ok-root.ensures in
    subst (λ t. HasParent t (texts c.args.to.now)) (sym left) (parent_stays c.args.self.now (texts c.args.names.now) (texts c.args.to.now) c.requires.tree c.requires.apart c.requires.parent)
