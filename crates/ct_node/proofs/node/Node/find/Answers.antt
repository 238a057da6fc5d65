use Rattle.std.proofs.Common.{◌≡◌, ◌∙◌, sym, ap, [], ℕ, List, Bor, subst, Some, get_or}
use Rattle.ct_node.specs.Listed.{listed, tree_of}
use Rattle.ct_tree.specs.Tree.{File, Dir}
use Rattle.ct_node.specs.Places.{Found, Absent}
use Rattle.ct_tree.specs.declared.call.Refusal.TheVariants.{NotFound, NotDir}
use Rattle.ct_node.proofs.Walks.{child_of_file, child_none, child_some, resolve_stop, resolve_go}
use Rattle.ct_node.proofs.node.Node.find.Goals as goal

abbrev blank : Bor (List ℕ)
blank = record { ref_ptr = (0, 0); now = [] }

pub returns-in-File : goal.returns-in-File
returns-in-File c =
    let is : File c.in-File.field-0.items ≡ c.loop-name.here.now = ap tree_of (sym c.in-File.is) ∙ c.here.view_is in
    sym c.loop-name.invariant ∙ resolve_stop c.loop-name.here.now c.args.names.now c.loop-name.name-index blank c.loop-name-test.true NotDir (child_of_file _ _ _ is)

pub returns-in-Err : goal.returns-in-Err
returns-in-Err c =
    let x = (get_or c.args.names.now c.loop-name.name-index blank).now in
    let is : Dir (listed c.in-Dir.entries.items) ≡ c.loop-name.here.now = ap tree_of (sym c.in-Dir.is) ∙ c.here.view_is in
    let at : Absent x c.in-Dir.entries.items c.in-Err.field-0 = subst (λ es. Absent x es c.in-Err.field-0) c.deref.ensures.value c.in-Err.ensures in
    sym c.loop-name.invariant ∙ resolve_stop c.loop-name.here.now c.args.names.now c.loop-name.name-index blank c.loop-name-test.true NotFound (child_none _ _ _ is at.look)

pub loop-name-preserved : goal.loop-name-preserved
loop-name-preserved c =
    let x = (get_or c.args.names.now c.loop-name.name-index blank).now in
    let is : Dir (listed c.in-Dir.entries.items) ≡ c.loop-name.here.now = ap tree_of (sym c.in-Dir.is) ∙ c.here.view_is in
    let at : Found x c.in-Dir.entries.items c.in-Ok.i = subst (λ es. Found x es c.in-Ok.i) c.deref.ensures.value c.in-Ok.ensures in
    let here = at.look c.index.result.now ∙ ap (λ e. Some e.node) (sym c.index.ensures) in
    sym (resolve_go c.loop-name.here.now c.args.names.now c.loop-name.name-index blank c.loop-name-test.true _ (child_some _ _ _ _ is here)) ∙ c.loop-name.invariant
