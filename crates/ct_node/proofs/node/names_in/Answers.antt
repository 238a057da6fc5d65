use Rattle.std.proofs.Common.{◌∙◌, ◌++◌, [], ◌∷◌, sym, ap, take}
use Rattle.std.proofs.lemmas.List.{take_more, map-append}
use Rattle.ct_node.specs.Listed.{listed}
use Rattle.ct_tree.specs.Step.{names_in}
use Rattle.ct_node.proofs.Walks.{names_push}
use Rattle.ct_node.proofs.node.names_in.Goals as goal

pub loop-entry-preserved : goal.loop-entry-preserved
loop-entry-preserved c =
    let items = c.args.entries.now in
    let i = c.loop-entry.entry-index in
    let e = c.entry-item.result in
    let name = c.in_ok-name.name in
    rw (c.in-Ok.ensures.items, map-append)
    (ap (λ ns. ns ++ name.items ∷ []) c.loop-entry.invariant ∙ ap (λ x. names_in (listed (take i items)) ++ x ∷ []) (c.in_ok-name.ensures ∙ c.deref.ensures.value)
    ∙ sym (names_push (take i items) e) ∙ ap (λ u. names_in (listed (take i items ++ u ∷ []))) c.entry-item.is ∙ ap (λ es. names_in (listed es)) (sym (take_more items i e c.loop-entry-test.true)))
