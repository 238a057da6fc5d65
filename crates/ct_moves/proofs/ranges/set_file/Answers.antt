use Rattle.std.proofs.Common.{◌∙◌, sym, ap, subst}
use Rattle.ct_base.specs.Path.{texts}
use Rattle.ct_tree.specs.Tree.{File}
use Rattle.ct_tree.specs.Resolve.{put, IsDir}
use Rattle.ct_tree.specs.Ordered.{IsTree}
use Rattle.ct_tree.proofs.Ordered.{put_tree}
use Rattle.ct_tree.proofs.Paths.{put_is_dir}
use Rattle.ct_moves.proofs.ranges.set_file.Goals as goal

pub returns-clause-tree : goal.returns-clause-tree
returns-clause-tree c =
    let t = c.args.root.now in
    let names = texts c.args.names.now in
    subst IsTree (sym (c.replace.ensures ∙ ap (put t names) c.file.ensures)) (put_tree t names (File c.args.bytes.items) c.requires.names c.requires.tree c.requires.short)

pub returns-clause-dir : goal.returns-clause-dir
returns-clause-dir c =
    let t = c.args.root.now in
    let names = texts c.args.names.now in
    subst IsDir (sym (c.replace.ensures ∙ ap (put t names) c.file.ensures)) (put_is_dir t names (File c.args.bytes.items) c.requires.there)
