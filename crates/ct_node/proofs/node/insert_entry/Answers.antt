use Rattle.std.proofs.Common.{◌∙◌, sym, ap, set, subst}
use Rattle.ct_node.specs.declared.node.Entry.{Entry}
use Rattle.ct_node.specs.Listed.{listed}
use Rattle.ct_node.specs.Places.{with_node, Found, Absent}
use Rattle.ct_node.proofs.node.insert_entry.Goals as goal
use Rattle.ct_node.proofs.node.insert_entry.Goals.{in-Ok-insert, in-Err-insert}

pub returns-in-Ok-clause-ok : goal.returns-in-Ok-clause-ok
returns-in-Ok-clause-ok c =
    let at : Found c.args.name.now c.args.entries.now.items c.in-Ok.i = subst (λ es. Found c.args.name.now es c.in-Ok.i) c.deref.ensures.value c.in-Ok.ensures in
    ap (λ e. listed (set c.args.entries.now.items c.in-Ok.i (with_node e c.args.node))) c.index_mut.ensures.value ∙ sym (at.put c.index_mut.result.now c.args.node)

pub returns-after-insert-clause-ok : goal.returns-after-insert-clause-ok
returns-after-insert-clause-ok c =
    let at : Absent c.args.name.now c.args.entries.now.items c.in-Err.i = subst (λ es. Absent c.args.name.now es c.in-Err.i) c.deref.ensures.value c.in-Err.ensures in
    let made : Entry = record { name = c.in-Ok-from_slice.name; node = c.args.node } in
    elim c.match-insert.branch [
      | in-Ok-insert w ↦ rw w.result-is (ap listed w.in-Ok-insert.ensures.items ∙ sym (at.put made c.in-Ok-from_slice.ensures.items))
      | in-Err-insert w ↦ rw w.result-is tt
    ]
