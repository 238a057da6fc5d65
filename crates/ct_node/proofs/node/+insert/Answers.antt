use Rattle.std.proofs.Common.{◌≡◌, ◌∙◌, sym, ap, subst, rules}
use Rattle.ct_base.specs.Path.{texts}
use Rattle.ct_node.specs.Listed.{listed, tree_of}
use Rattle.ct_tree.specs.Tree.{File, Dir}
use Rattle.ct_tree.specs.Resolve.{HasParent}
use Rattle.ct_node.proofs.Walks.{no_parent_in_file}
use Rattle.ct_node.proofs.node.+insert.Goals as goal

pub Node::insert-unreachable-requires : goal.Node::insert-unreachable-requires
Node::insert-unreachable-requires t c =
    let is : File c.in-File.field-0.items ≡ c.args.self.now = ap tree_of (sym c.in-File.is) ∙ c.self.view_is in
    no_parent_in_file c.in-File.field-0.items (texts c.args.names.now) (subst (λ t. HasParent t (texts c.args.names.now)) (sym is) c.requires)

pub Node::insert-insert_below-requires : goal.Node::insert-insert_below-requires
Node::insert-insert_below-requires t c =
    let is : Dir (listed c.in-Dir.entries.items) ≡ c.args.self.now = ap tree_of (sym c.in-Dir.is) ∙ c.self.view_is in
    (search rules, subst (λ t. HasParent t (texts c.args.names.now)) (sym is) c.requires)
