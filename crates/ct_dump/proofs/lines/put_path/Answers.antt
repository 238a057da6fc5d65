use Rattle.std.proofs.Common.{◌≡◌, ◌∙◌, ℕ, [], ◌++◌, ◌≤◌, sym, ap, subst, refl, arith, take, append_assoc}
use Rattle.std.specs.Io.KnownBytes.{Appends}
use Rattle.std.proofs.lemmas.List.{take-append-drop}
use Rattle.ct_script.specs.Texts.{escaped}
use Rattle.ct_script.proofs.Puts.{appends_nil, appends_then, fault_after}
use Rattle.ct_dump.proofs.Pieces.{escaped_append}
use Rattle.ct_dump.proofs.lines.put_path.Goals as goal

pub pieces-init : goal.pieces-init
pieces-init g c = ([], refl, appends_nil _, omega arith)

pub returns-in-Err-clause-bytes : goal.returns-in-Err-clause-bytes
returns-in-Err-clause-bytes g c =
    let inv = c.pieces.invariant in
    let n = c.min.result in
    let piece = c.split_at.result.0.now in
    let more = c.split_at.result.1.now in
    let joined : piece ++ more ≡ c.pieces.rest.now = ap (λ u. u ++ more) c.split_at.ensures.front ∙ ap (λ u. take n c.pieces.rest.now ++ u) c.split_at.ensures.back ∙ take-append-drop n c.pieces.rest.now in
    let whole : escaped c.args.path.now ≡ escaped inv.0 ++ (c.escape.result.now ++ escaped more) =
    ap escaped (sym inv.1 ∙ ap (λ u. inv.0 ++ u) (sym joined)) ∙ escaped_append inv.0 (piece ++ more) ∙ ap (λ u. escaped inv.0 ++ u) (escaped_append piece more ∙ ap (λ u. u ++ escaped more) (sym c.escape.ensures)) in
    subst (λ t. (k : ℕ) × Appends (g.O.Sink.written c.args.out.now) (g.O.Sink.written c.put.new.self) (take k t)) (sym whole)
    (fault_after (g.O.Sink.written c.args.out.now) (g.O.Sink.written c.pieces.out) (g.O.Sink.written c.put.new.self) (escaped inv.0) c.escape.result.now (escaped more) inv.2 c.in-Err.ensures.bytes)

pub pieces-preserved : goal.pieces-preserved
pieces-preserved g c =
    let inv = c.pieces.invariant in
    let n = c.min.result in
    let piece = c.split_at.result.0.now in
    let more = c.split_at.result.1.now in
    let joined : piece ++ more ≡ c.pieces.rest.now = ap (λ u. u ++ more) c.split_at.ensures.front ∙ ap (λ u. take n c.pieces.rest.now ++ u) c.split_at.ensures.back ∙ take-append-drop n c.pieces.rest.now in
    let later = c.in-Ok.ensures.cause.later in
    let had : g.O.Sink.faults c.args.out.now ≤ g.O.Sink.faults c.pieces.out = inv.3 in (
      inv.0 ++ piece,
      append_assoc inv.0 piece more ∙ ap (λ u. inv.0 ++ u) joined ∙ inv.1,
      subst (Appends (g.O.Sink.written c.args.out.now) (g.O.Sink.written c.put.new.self)) (ap (λ u. escaped inv.0 ++ u) c.escape.ensures ∙ sym (escaped_append inv.0 piece))
          (appends_then (g.O.Sink.written c.args.out.now) (g.O.Sink.written c.pieces.out) (g.O.Sink.written c.put.new.self) (escaped inv.0) c.escape.result.now inv.2 c.in-Ok.ensures.bytes),
      omega (arith, later, had),
    )
