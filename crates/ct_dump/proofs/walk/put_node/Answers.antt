use Rattle.std.proofs.Common.{◌≡◌, ◌∙◌, ◌≤◌, ℕ, ◌∷◌, length, take, sym, ap, subst, arith}
use Rattle.std.specs.Prelude.{IsOkAnd}
use Rattle.std.specs.Io.KnownBytes.{Appends}
use Rattle.std.proofs.lemmas.List.{length-append}
use Rattle.ct_tree.specs.Checks.{at}
use Rattle.ct_tree.specs.Resolve.{node_in}
use Rattle.ct_dump.specs.Dumped.{path_below, node_lines}
use Rattle.ct_dump.specs.Looks.{LeadsTo, IsNode}
use Rattle.ct_dump.specs.Places.{entry_at, is_dir}
use Rattle.ct_dump.proofs.Places.{at_below, path_is_below}
use Rattle.ct_dump.proofs.Dumps.{short_alone, put_alone, fault_alone}
use Rattle.ct_dump.proofs.walk.put_node.Goals as goal

pub put_lines-requires : goal.put_lines-requires
put_lines-requires g c =
    let path = c.args.path.now.items in
    let name = c.args.name.now in
    let r = c.requires in
    let fits : length (path_below path name) ≤ 4096 = omega (arith, length-append path (47 ∷ name), c.if-name-len.false, c.len.ensures.value, c.len.ensures.fits) in
    let is : c.as_slice.result.now ≡ path_below path name = c.as_slice.ensures.value ∙ c.lead_below.ensures in
    subst (λ p. LeadsTo (g.T.Seen.tree c.args.tree.now) p IsNode) (sym is)
    (path_is_below path name r.0 r.1 fits, subst (λ r. IsOkAnd r IsNode) (sym (at_below (g.T.Seen.tree c.args.tree.now) path name r.0 r.1 fits)) r.2)

pub returns-in-Ok-clause-dir : goal.returns-in-Ok-clause-dir
returns-in-Ok-clause-dir g c =
    let path = c.args.path.now.items in
    let name = c.args.name.now in
    let r = c.requires in
    let fits : length (path_below path name) ≤ 4096 = omega (arith, length-append path (47 ∷ name), c.if-name-len.false, c.len.ensures.value, c.len.ensures.fits) in
    let is : c.as_slice.result.now ≡ path_below path name = c.as_slice.ensures.value ∙ c.lead_below.ensures in
    c.in-Ok.ensures.dir ∙ ap (λ p. is_dir (node_in (at (g.T.Seen.tree c.args.tree.now) p))) is ∙ ap (λ n. is_dir (node_in n)) (at_below (g.T.Seen.tree c.args.tree.now) path name r.0 r.1 fits)

pub returns-in-Ok-clause-text : goal.returns-in-Ok-clause-text
returns-in-Ok-clause-text g c =
    let path = c.args.path.now.items in
    let name = c.args.name.now in
    let t = g.T.Seen.tree c.args.tree.now in
    let r = c.requires in
    let fits : length (path_below path name) ≤ 4096 = omega (arith, length-append path (47 ∷ name), c.if-name-len.false, c.len.ensures.value, c.len.ensures.fits) in
    let is : c.as_slice.result.now ≡ path_below path name = c.as_slice.ensures.value ∙ c.lead_below.ensures in
    let lines : node_lines c.as_slice.result.now (node_in (at t c.as_slice.result.now)) ≡ node_lines (path_below path name) (node_in (entry_at t path name)) =
    ap (λ p. node_lines p (node_in (at t p))) is ∙ ap (λ n. node_lines (path_below path name) (node_in n)) (at_below t path name r.0 r.1 fits) in (
      short_alone (path_below path name) (node_in (entry_at t path name)) fits,
      put_alone (g.O.Sink.written c.args.out.now) (g.O.Sink.written c.put_lines.new.out) (path_below path name) (node_in (entry_at t path name))
          (subst (Appends (g.O.Sink.written c.args.out.now) (g.O.Sink.written c.put_lines.new.out)) lines c.in-Ok.ensures.bytes),
    )

pub returns-in-Err-clause-text : goal.returns-in-Err-clause-text
returns-in-Err-clause-text g c =
    let path = c.args.path.now.items in
    let name = c.args.name.now in
    let t = g.T.Seen.tree c.args.tree.now in
    let r = c.requires in
    let fits : length (path_below path name) ≤ 4096 = omega (arith, length-append path (47 ∷ name), c.if-name-len.false, c.len.ensures.value, c.len.ensures.fits) in
    let is : c.as_slice.result.now ≡ path_below path name = c.as_slice.ensures.value ∙ c.lead_below.ensures in
    let lines : node_lines c.as_slice.result.now (node_in (at t c.as_slice.result.now)) ≡ node_lines (path_below path name) (node_in (entry_at t path name)) =
    ap (λ p. node_lines p (node_in (at t p))) is ∙ ap (λ n. node_lines (path_below path name) (node_in n)) (at_below t path name r.0 r.1 fits) in
    fault_alone (g.O.Sink.written c.args.out.now) (g.O.Sink.written c.put_lines.new.out) (path_below path name) (node_in (entry_at t path name)) fits
    (subst (λ t. (k : ℕ) × Appends (g.O.Sink.written c.args.out.now) (g.O.Sink.written c.put_lines.new.out) (take k t)) lines c.in-Err.ensures.bytes)
