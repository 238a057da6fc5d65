use Rattle.std.proofs.Common.{◌≡◌, true, sym, subst}
use Rattle.std.specs.List.{list_all}
use Rattle.ct_base.specs.Path.{texts, is_name}
use Rattle.ct_tree.specs.Resolve.{IsDir}
use Rattle.ct_tree.specs.Ordered.{IsTree}
use Rattle.ct_tree.specs.Checks.{refuse_if, has_none}
use Rattle.ct_tree.specs.declared.call.Refusal.TheVariants.{Exists}
use Rattle.ct_tree.proofs.Ordered.{put_tree, put_dir}
use Rattle.ct_plain.proofs.plain.PlainTree.make.Goals as goal

pub invariant_of-self-2 : goal.invariant_of-self-2
invariant_of-self-2 c =
    let names = texts c.deref-4.result.now in
    let valid : list_all is_name names ≡ true = subst (λ ns. list_all is_name (texts ns) ≡ true) (sym c.deref-4.ensures.value) c.in_ok-names.ensures.valid in
    let below = subst (λ ns. refuse_if (has_none (texts ns)) Exists ≡ _) (c.deref.ensures.value) c.in_ok-check_not_root.ensures in
    subst (λ t. IsTree t × IsDir t) (sym c.in_ok-insert.ensures.ok)
    (put_tree c.self.inside.root names c.args.node valid c.self.invariant.0 c.requires, put_dir c.self.inside.root names c.args.node Exists (subst (λ ns. refuse_if (has_none (texts ns)) Exists ≡ _) (sym c.deref-4.ensures.value) below))
