use Rattle.std.proofs.Common.{◌≡◌, ◌∙◌, sym, ap, subst, rules}
use Rattle.ct_base.specs.Path.{texts}
use Rattle.ct_node.specs.Listed.{listed, tree_of}
use Rattle.ct_tree.specs.Tree.{File, Dir}
use Rattle.ct_tree.specs.Resolve.{IsBelowRoot}
use Rattle.ct_node.proofs.Walks.{none_in_file}
use Rattle.ct_node.proofs.node.+remove.Goals as goal

pub Node::remove-unreachable-requires : goal.Node::remove-unreachable-requires
Node::remove-unreachable-requires t c =
    let is : File c.in-File.field-0.items ≡ c.args.self.now = ap tree_of (sym c.in-File.is) ∙ c.self.view_is in
    none_in_file c.in-File.field-0.items (texts c.args.names.now) (subst (λ t. IsBelowRoot t (texts c.args.names.now)) (sym is) c.requires)

pub Node::remove-remove_below-requires : goal.Node::remove-remove_below-requires
Node::remove-remove_below-requires t c =
    let is : Dir (listed c.in-Dir.entries.items) ≡ c.args.self.now = ap tree_of (sym c.in-Dir.is) ∙ c.self.view_is in
    (search rules, subst (λ t. IsBelowRoot t (texts c.args.names.now)) (sym is) c.requires)
