use Rattle.std.proofs.Common.{◌∙◌, ◌++◌, [], ◌∷◌, sym, ap, take}
use Rattle.std.proofs.lemmas.List.{take_more}
use Rattle.ct_node.specs.declared.node.Entry.{Entry}
use Rattle.ct_node.specs.Listed.{listed}
use Rattle.ct_node.proofs.Places.{same_push}
use Rattle.ct_node.proofs.node.Node.+copy.Goals as goal

pub loop-entry-preserved : goal.loop-entry-preserved
loop-entry-preserved t c =
    let items = c.deref-entry-items.result.now in
    let i = c.loop-entry.entry-index in
    let made : Entry = record { name = c.in_ok-name-in-Dir.name; node = c.in_ok-node-in-Dir.node } in
    let names = c.in_ok-name-in-Dir.ensures ∙ c.deref-in-loop-entry.ensures.value in
    ap listed c.in-Ok.ensures.items
    ∙ same_push c.loop-entry.all.items (take i items) made c.entry-item.result c.loop-entry.invariant names c.in_ok-node-in-Dir.ensures
    ∙ ap (λ e. listed (take i items ++ e ∷ [])) c.entry-item.is ∙ ap listed (sym (take_more items i c.entry-item.result c.loop-entry-test.true))
