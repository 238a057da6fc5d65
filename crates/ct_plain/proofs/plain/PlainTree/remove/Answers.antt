use Rattle.std.proofs.Common.{sym, subst}
use Rattle.ct_base.specs.Path.{texts}
use Rattle.ct_tree.specs.Resolve.{IsDir, IsBelowRoot}
use Rattle.ct_tree.specs.Ordered.{IsTree}
use Rattle.ct_tree.proofs.Ordered.{cut_tree}
use Rattle.ct_tree.proofs.Paths.{cut_is_dir}
use Rattle.ct_plain.proofs.plain.PlainTree.remove.Goals as goal

pub invariant_of-self : goal.invariant_of-self
invariant_of-self c =
    let names = texts c.args.names.now in
    let there : IsBelowRoot c.self.inside.root names = subst (λ t. IsBelowRoot t names) (sym c.self.view_is) c.requires.there in
    subst (λ t. IsTree t × IsDir t) (sym c.remove.ensures.left)
    (cut_tree c.self.inside.root names c.requires.names c.self.invariant.0, cut_is_dir c.self.inside.root names there)
