use Rattle.std.proofs.Common.{◌≡◌, ◌∙◌, ◌≤◌, ◌+◌, ◌++◌, ◌∷◌, sym, ap, subst, arith, length, take, Some, Ok, Err, true, false, Bool}
use Rattle.std.specs.Option.{option_map}
use Rattle.std.proofs.lemmas.List.{take-append-le, take_all}
use Rattle.ct_tree.specs.Tree.{entry, nodes_below}
use Rattle.ct_tree.specs.Resolve.{IsDir, entries_in}
use Rattle.ct_dump.specs.Dumped.{path_below, placed_in}
use Rattle.ct_dump.specs.Dumps.{DumpAppends}
use Rattle.ct_dump.specs.Looks.{entries_at, entries_above, first_name}
use Rattle.ct_dump.specs.Places.{LiesAt}
use Rattle.ct_dump.proofs.Entered.{entered, has_entry, alone_is, path_is, wrote, lies_below, entries_below, fewer_below, node_failed, entry_failed, dir_done, file_done, Goes, goes_on, are_entries}
use Rattle.ct_dump.proofs.Rests.{entries_from, first_found, next_rest}
use Rattle.ct_tree.specs.Step.{count}
use Rattle.ct_tree.specs.Resolve.{resolve, node_in}
use Rattle.ct_tree.specs.Checks.{names}
use Rattle.ct_dump.proofs.walk.+put_entries.Goals as goal
use Rattle.ct_dump.proofs.walk.+put_entries.Goals.{then-is_dir+in-Ok-put_entries, else-is_dir}

pub put_node-requires : goal.put_node-requires
put_node-requires g t c =
    let tree = g.T.Seen.tree c.args.tree.now in
    let inv = c.entries.invariant in
    let first : Some c.in-Some.name.items ≡ first_name inv.2.0 = ap (option_map (λ name. name.items)) (sym c.in-Some.is) ∙ inv.2.2 in
    let e = entered tree c.args.path.now.items c.in-Some.name.items inv.2.0 (g.met.T.Seen.sound c.args.tree.now) c.requires.1 inv.2.1 first in
    has_entry tree c.args.path.now.items c.in-Some.name.items c.entries.path.items c.as_slice-in-Some.result.now inv.2.0 c.requires e inv.0 c.as_slice-in-Some.ensures.value

pub put_entries-requires : goal.put_entries-requires
put_entries-requires g t c κs within =
    let tree = g.T.Seen.tree c.args.tree.now in
    let inv = c.entries.invariant in
    let path = c.args.path.now.items in
    let x = c.in-Some.name.items in
    let first : Some x ≡ first_name inv.2.0 = ap (option_map (λ name. name.items)) (sym c.in-Some.is) ∙ inv.2.2 in
    let e = entered tree path x inv.2.0 (g.met.T.Seen.sound c.args.tree.now) c.requires.1 inv.2.1 first in
    let w = wrote tree path x c.entries.path.items c.as_slice-in-Some.result.now inv.2.0 e (g.O.Sink.written c.entries.out) (g.O.Sink.written c.put_node.new.out) true c.in-Ok.is_dir inv.0 c.as_slice-in-Some.ensures.value c.in-Ok.ensures.dir c.if-is_dir.true c.in-Ok.ensures.text in
    let is : c.put_node.new.path.items ≡ path_below path x = c.in-Ok.ensures.path ∙ path_is path x c.entries.path.items c.as_slice-in-Some.result.now inv.0 c.as_slice-in-Some.ensures.value in
    let lies : LiesAt tree c.put_node.new.path.items IsDir = subst (λ p. LiesAt tree p IsDir) (sym is) (lies_below tree path x inv.2.0 c.requires e w.fits w.is) in
    let fewer = fewer_below tree path x inv.2.0 c.requires e w.fits in
    let there : nodes_below (entries_at tree c.put_node.new.path.items) ≡ nodes_below (entries_at tree (path_below path x)) = ap (λ p. nodes_below (entries_at tree p)) is in
    let smaller : nodes_below (entries_at tree c.put_node.new.path.items) + 1 ≤ nodes_below (entries_at tree path) = omega (arith, there, fewer) in
    (omega (arith, smaller, c.decreases), (within.0, (within.1, lies)))

pub returns-in-Err-put_entries-clause-text : goal.returns-in-Err-put_entries-clause-text
returns-in-Err-put_entries-clause-text g t c =
    let tree = g.T.Seen.tree c.args.tree.now in
    let inv = c.entries.invariant in
    let path = c.args.path.now.items in
    let x = c.in-Some.name.items in
    let first : Some x ≡ first_name inv.2.0 = ap (option_map (λ name. name.items)) (sym c.in-Some.is) ∙ inv.2.2 in
    let e = entered tree path x inv.2.0 (g.met.T.Seen.sound c.args.tree.now) c.requires.1 inv.2.1 first in
    let w = wrote tree path x c.entries.path.items c.as_slice-in-Some.result.now inv.2.0 e (g.O.Sink.written c.entries.out) (g.O.Sink.written c.put_node.new.out) true c.in-Ok.is_dir inv.0 c.as_slice-in-Some.ensures.value c.in-Ok.ensures.dir c.if-is_dir.true c.in-Ok.ensures.text in
    let is : c.put_node.new.path.items ≡ path_below path x = c.in-Ok.ensures.path ∙ path_is path x c.entries.path.items c.as_slice-in-Some.result.now inv.0 c.as_slice-in-Some.ensures.value in
    let below : placed_in c.put_node.new.path.items (entries_at tree c.put_node.new.path.items) ≡ placed_in (path_below path x) (entries_in e.node) =
    ap (λ p. placed_in p (entries_at tree p)) is ∙ ap (placed_in (path_below path x)) (entries_below tree path x inv.2.0 c.requires e w.fits) in
    entry_failed (Unit {0}) (Unit {0}) c.in-Err-put_entries.fault (g.O.Sink.written c.args.out.now) (g.O.Sink.written c.entries.out) (g.O.Sink.written c.put_entries.new.out) inv.2.3.0 (placed_in path (entries_at tree path)) path x e.node e.more inv.2.3.1 inv.2.3.2
    (ap (λ r. inv.2.3.0 ++ placed_in path r) (sym e.rest_is) ∙ inv.2.3.3)
    (dir_done {A = Unit {0}} (Err c.in-Err-put_entries.fault) (g.O.Sink.written c.entries.out) (g.O.Sink.written c.put_node.new.out) (g.O.Sink.written c.put_entries.new.out) (path_below path x) e.node w.short w.lines
    (subst (DumpAppends {A = Unit {0}} (g.O.Sink.written c.put_node.new.out) (g.O.Sink.written c.put_entries.new.out) (Err c.in-Err-put_entries.fault)) below c.in-Err-put_entries.ensures.text))

pub returns-in-Err-clause-text : goal.returns-in-Err-clause-text
returns-in-Err-clause-text g t c =
    let tree = g.T.Seen.tree c.args.tree.now in
    let inv = c.entries.invariant in
    let path = c.args.path.now.items in
    let x = c.in-Some.name.items in
    let first : Some x ≡ first_name inv.2.0 = ap (option_map (λ name. name.items)) (sym c.in-Some.is) ∙ inv.2.2 in
    let e = entered tree path x inv.2.0 (g.met.T.Seen.sound c.args.tree.now) c.requires.1 inv.2.1 first in
    entry_failed (Unit {0}) (Unit {0}) c.in-Err.fault (g.O.Sink.written c.args.out.now) (g.O.Sink.written c.entries.out) (g.O.Sink.written c.put_node.new.out) inv.2.3.0 (placed_in path (entries_at tree path)) path x e.node e.more inv.2.3.1 inv.2.3.2
    (ap (λ r. inv.2.3.0 ++ placed_in path r) (sym e.rest_is) ∙ inv.2.3.3)
    (node_failed Bool (Unit {0}) c.in-Err.fault (g.O.Sink.written c.entries.out) (g.O.Sink.written c.put_node.new.out) (path_below path x) e.node
    (subst (DumpAppends {A = Bool} (g.O.Sink.written c.entries.out) (g.O.Sink.written c.put_node.new.out) (Err c.in-Err.fault)) (alone_is tree path x c.entries.path.items c.as_slice-in-Some.result.now inv.2.0 e inv.0 c.as_slice-in-Some.ensures.value) c.in-Err.ensures.text))

pub entries-smaller : goal.entries-smaller
entries-smaller g t c =
    let tree = g.T.Seen.tree c.args.tree.now in
    let inv = c.entries.invariant in
    let path = c.args.path.now.items in
    let x = c.in-Some.name.items in
    let first : Some x ≡ first_name inv.2.0 = ap (option_map (λ name. name.items)) (sym c.in-Some.is) ∙ inv.2.2 in
    let e = entered tree path x inv.2.0 (g.met.T.Seen.sound c.args.tree.now) c.requires.1 inv.2.1 first in
    let path_there : c.if-is_dir.path.items ≡ path_below path x =
    elim c.if-is_dir.branch [
      | then-is_dir+in-Ok-put_entries w ↦ ap (λ p. p.items) w.path-is ∙ w.in-Ok-put_entries.ensures.path ∙ c.in-Ok.ensures.path ∙ path_is path x c.entries.path.items c.as_slice-in-Some.result.now inv.0 c.as_slice-in-Some.ensures.value
      | else-is_dir w ↦ ap (λ p. p.items) w.path-is ∙ c.in-Ok.ensures.path ∙ path_is path x c.entries.path.items c.as_slice-in-Some.result.now inv.0 c.as_slice-in-Some.ensures.value
    ] in
    let back : c.truncate.new.self.items ≡ path =
    c.truncate.ensures.items ∙ ap (λ n. take n c.if-is_dir.path.items) inv.1 ∙ ap (take (length path)) path_there
    ∙ take-append-le (length path) path (47 ∷ x) (omega arith) ∙ take_all (length path) path (omega arith) in
    let es_is : entries_at tree c.here-in-Some.result.now ≡ entries_at tree path =
    ap (λ ns. entries_in (node_in (resolve tree ns))) (c.here-in-Some.ensures.names ∙ ap names (c.as_slice-in-Some-2.ensures.value ∙ back)) in
    let last_is : option_map (λ name. name.items) c.next-last-in-Some.result ≡ first_name e.more =
    c.next-last-in-Some.ensures ∙ ap (λ es. first_name (entries_above c.as_slice-in-Some-3.result.now es)) es_is
    ∙ ap (λ y. first_name (entries_above y (entries_at tree path))) c.as_slice-in-Some-3.ensures.value ∙ ap first_name e.found.above in
    let es = entries_at tree path in
    let after : count (entries_from (option_map (λ name. name.items) c.next-last-in-Some.result) es) ≡ count e.more =
    ap (λ o. count (entries_from o es)) last_is ∙ ap count (first_found e.more es (next_rest x e.node e.more es e.is_rest) (are_entries tree path (g.met.T.Seen.sound c.args.tree.now))) in
    let before : count (entries_from (option_map (λ name. name.items) c.entries.last) es) ≡ 1 + count e.more =
    ap (λ o. count (entries_from o es)) (ap (option_map (λ name. name.items)) c.in-Some.is) ∙ ap count e.found.from in
    omega (arith, after, before)

pub entries-preserved : goal.entries-preserved
entries-preserved g t c =
    let tree = g.T.Seen.tree c.args.tree.now in
    let inv = c.entries.invariant in
    let path = c.args.path.now.items in
    let x = c.in-Some.name.items in
    let first : Some x ≡ first_name inv.2.0 = ap (option_map (λ name. name.items)) (sym c.in-Some.is) ∙ inv.2.2 in
    let e = entered tree path x inv.2.0 (g.met.T.Seen.sound c.args.tree.now) c.requires.1 inv.2.1 first in
    let so_far : inv.2.3.0 ++ placed_in path (entry x e.node e.more) ≡ placed_in path (entries_at tree path) = ap (λ r. inv.2.3.0 ++ placed_in path r) (sym e.rest_is) ∙ inv.2.3.3 in
    let merged : Goes (g.O.Sink.written c.args.out.now) (g.O.Sink.written c.if-is_dir.out) path e.more (placed_in path (entries_at tree path)) × (c.if-is_dir.path.items ≡ path_below path x) × (g.O.Sink.faults c.args.out.now ≤ g.O.Sink.faults c.if-is_dir.out) =
    elim c.if-is_dir.branch [
      | then-is_dir+in-Ok-put_entries w ↦
          let m = wrote tree path x c.entries.path.items c.as_slice-in-Some.result.now inv.2.0 e (g.O.Sink.written c.entries.out) (g.O.Sink.written c.put_node.new.out) true c.in-Ok.is_dir inv.0 c.as_slice-in-Some.ensures.value c.in-Ok.ensures.dir w.if-is_dir.true c.in-Ok.ensures.text in
          let is : c.put_node.new.path.items ≡ path_below path x = c.in-Ok.ensures.path ∙ path_is path x c.entries.path.items c.as_slice-in-Some.result.now inv.0 c.as_slice-in-Some.ensures.value in
          let below : placed_in c.put_node.new.path.items (entries_at tree c.put_node.new.path.items) ≡ placed_in (path_below path x) (entries_in e.node) =
          ap (λ p. placed_in p (entries_at tree p)) is ∙ ap (placed_in (path_below path x)) (entries_below tree path x inv.2.0 c.requires e m.fits) in
          let went = goes_on (g.O.Sink.written c.args.out.now) (g.O.Sink.written c.entries.out) (g.O.Sink.written w.put_entries.new.out) inv.2.3.0 (placed_in path (entries_at tree path)) path x e.node e.more inv.2.3.1 inv.2.3.2 so_far
          (dir_done {A = Unit {0}} (Ok tt) (g.O.Sink.written c.entries.out) (g.O.Sink.written c.put_node.new.out) (g.O.Sink.written w.put_entries.new.out) (path_below path x) e.node m.short m.lines
          (subst (DumpAppends {A = Unit {0}} (g.O.Sink.written c.put_node.new.out) (g.O.Sink.written w.put_entries.new.out) (Ok tt)) below w.in-Ok-put_entries.ensures.text)) in
          let one = inv.3 in
          let two = c.in-Ok.ensures.cause in
          let three = w.in-Ok-put_entries.ensures.cause in
          let out = ap g.O.Sink.faults w.out-is in
          (subst (λ o. Goes (g.O.Sink.written c.args.out.now) (g.O.Sink.written o) path e.more (placed_in path (entries_at tree path))) (sym w.out-is) went, ap (λ p. p.items) w.path-is ∙ w.in-Ok-put_entries.ensures.path ∙ is, omega (arith, one, two, three, out))
      | else-is_dir w ↦
          let m = wrote tree path x c.entries.path.items c.as_slice-in-Some.result.now inv.2.0 e (g.O.Sink.written c.entries.out) (g.O.Sink.written c.put_node.new.out) false c.in-Ok.is_dir inv.0 c.as_slice-in-Some.ensures.value c.in-Ok.ensures.dir w.if-is_dir.false c.in-Ok.ensures.text in
          let is : c.put_node.new.path.items ≡ path_below path x = c.in-Ok.ensures.path ∙ path_is path x c.entries.path.items c.as_slice-in-Some.result.now inv.0 c.as_slice-in-Some.ensures.value in
          let went = goes_on (g.O.Sink.written c.args.out.now) (g.O.Sink.written c.entries.out) (g.O.Sink.written c.put_node.new.out) inv.2.3.0 (placed_in path (entries_at tree path)) path x e.node e.more inv.2.3.1 inv.2.3.2 so_far
          (file_done {A = Unit {0}} (Ok tt) (g.O.Sink.written c.entries.out) (g.O.Sink.written c.put_node.new.out) (path_below path x) e.node m.is (m.short, m.lines)) in
          let one = inv.3 in
          let two = c.in-Ok.ensures.cause in
          let out = ap g.O.Sink.faults w.out-is in
          (subst (λ o. Goes (g.O.Sink.written c.args.out.now) (g.O.Sink.written o) path e.more (placed_in path (entries_at tree path))) (sym w.out-is) went, ap (λ p. p.items) w.path-is ∙ is, omega (arith, one, two, out))
    ] in
    let back : c.truncate.new.self.items ≡ path =
    c.truncate.ensures.items ∙ ap (λ n. take n c.if-is_dir.path.items) inv.1 ∙ ap (take (length path)) merged.1
    ∙ take-append-le (length path) path (47 ∷ x) (omega arith) ∙ take_all (length path) path (omega arith) in
    let es_is : entries_at tree c.here-in-Some.result.now ≡ entries_at tree path =
    ap (λ ns. entries_in (node_in (resolve tree ns))) (c.here-in-Some.ensures.names ∙ ap names (c.as_slice-in-Some-2.ensures.value ∙ back)) in
    let last_is : option_map (λ name. name.items) c.next-last-in-Some.result ≡ first_name e.more =
    c.next-last-in-Some.ensures ∙ ap (λ es. first_name (entries_above c.as_slice-in-Some-3.result.now es)) es_is
    ∙ ap (λ y. first_name (entries_above y (entries_at tree path))) c.as_slice-in-Some-3.ensures.value ∙ ap first_name e.found.above in
    (back, inv.1, (e.more, next_rest x e.node e.more (entries_at tree path) e.is_rest, last_is, (merged.0.done, merged.0.lines, merged.0.short, merged.0.is)), merged.2)
