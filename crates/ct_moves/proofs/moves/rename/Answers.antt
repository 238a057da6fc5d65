use Rattle.std.proofs.Common.{sym, subst}
use Rattle.ct_base.specs.Path.{texts}
use Rattle.ct_tree.specs.Resolve.{IsDir, cut, node_in, resolve}
use Rattle.ct_tree.specs.Ordered.{IsTree}
use Rattle.ct_tree.specs.declared.call.Refusal.TheVariants.{IsRoot}
use Rattle.ct_tree.proofs.Ordered.{put_tree, cut_tree, node_tree, put_dir}
use Rattle.ct_moves.proofs.Renames.{not_into_itself, rename_blocked, rename_fails, rename_moves, rename_stays}
use Rattle.ct_moves.proofs.moves.rename.Goals as goal

pub returns-in_err-check_move-clause-does : goal.returns-in_err-check_move-clause-does
returns-in_err-check_move-clause-does c =
    rename_fails c.args.root.now c.args.path.now c.args.to.now (texts c.args.names.now) (texts c.args.target.now) c.requires.names c.requires.target
    c.from_residual.result c.in_err-check_move.field-0.0 c.from_residual.ensures.1 c.in_err-check_move.ensures.passes

pub returns-then-eq-clause-does : goal.returns-then-eq-clause-does
returns-then-eq-clause-does c =
    rename_stays c.args.root.now c.args.path.now c.args.to.now (texts c.args.names.now) (texts c.args.target.now) c.requires.names c.requires.target
    c.in_ok-check_move.ensures.passes c.if-eq.ensures

pub returns-in_err-check_replaced-clause-does : goal.returns-in_err-check_replaced-clause-does
returns-in_err-check_replaced-clause-does c =
    rename_blocked c.args.root.now c.args.path.now c.args.to.now (texts c.args.names.now) (texts c.args.target.now) c.requires.names c.requires.target
    c.in_ok-check_move.ensures.passes c.if-eq.ensures c.from_residual-in_err-check_replaced.result c.in_err-check_replaced.field-0.0
    c.from_residual-in_err-check_replaced.ensures.1 c.in_err-check_replaced.ensures

pub moved-requires-clause-apart : goal.moved-requires-clause-apart
moved-requires-clause-apart c = not_into_itself c.args.root.now (texts c.args.names.now) (texts c.args.target.now) c.in_ok-check_move.ensures.passes

pub returns-clause-does : goal.returns-clause-does
returns-clause-does c =
    rename_moves c.args.root.now c.args.path.now c.args.to.now (texts c.args.names.now) (texts c.args.target.now) c.requires.names c.requires.target
    c.in_ok-check_move.ensures.passes c.if-eq.ensures c.in_ok-moved.moved c.in_ok-check_replaced.ensures c.in_ok-moved.ensures

pub returns-clause-tree : goal.returns-clause-tree
returns-clause-tree c =
    let t = c.args.root.now in
    let names = texts c.args.names.now in
    subst IsTree (sym c.in_ok-moved.ensures) (put_tree (cut t names) (texts c.args.target.now) (node_in (resolve t names)) c.requires.target.valid (cut_tree t names c.requires.names.valid c.requires.tree) (node_tree t names c.requires.tree))

pub returns-clause-dir : goal.returns-clause-dir
returns-clause-dir c =
    let t = c.args.root.now in
    let names = texts c.args.names.now in
    subst IsDir (sym c.in_ok-moved.ensures) (put_dir (cut t names) (texts c.args.target.now) (node_in (resolve t names)) IsRoot c.in_ok-check_move.ensures.below)
