use Rattle.std.proofs.Common.{◌≡◌, ◌∙◌, ◌*◌, ◌≤◌, [], ◌∷◌, ◌++◌, length, length-append, sym, ap, subst, append_assoc, arith}
use Rattle.ct_base.specs.Bytes.{PutAppends}
use Rattle.ct_script.specs.Texts.{escaped}
use Rattle.ct_tell.specs.Texts.{entry_line}
use Rattle.ct_tell.proofs.EntryLines.{escaped_short}
use Rattle.ct_tell.proofs.entries.put_entry.Goals as goal

pub push_bytes-requires-2 : goal.push_bytes-requires-2
push_bytes-requires-2 g c =
    let front = c.kind_text-line.ensures.short in
    let one = ap length c.push_bytes.ensures ∙ length-append c.kind_text-line.result.items (32 ∷ []) in
    let name : length c.escape.result.now ≤ 3 * length c.args.name.now = subst (λ t. length t ≤ 3 * length c.args.name.now) (sym c.escape.ensures) (escaped_short c.args.name.now) in
    let short = c.requires.short in
    omega (arith, front, one, name, short)

pub push_bytes-requires-3 : goal.push_bytes-requires-3
push_bytes-requires-3 g c =
    let front = c.kind_text-line.ensures.short in
    let one = ap length c.push_bytes.ensures ∙ length-append c.kind_text-line.result.items (32 ∷ []) in
    let two = ap length c.push_bytes-2.ensures ∙ length-append c.push_bytes.new.text.items c.escape.result.now in
    let name : length c.escape.result.now ≤ 3 * length c.args.name.now = subst (λ t. length t ≤ 3 * length c.args.name.now) (sym c.escape.ensures) (escaped_short c.args.name.now) in
    let short = c.requires.short in
    omega (arith, front, one, two, name, short)

pub returns-clause-bytes : goal.returns-clause-bytes
returns-clause-bytes g c node tree st =
    let name = c.args.name.now in
    let front = c.kind_text-line.result.items in
    let built : c.push_bytes-3.new.text.items ≡ entry_line name node =
    c.push_bytes-3.ensures ∙ ap (λ t. t ++ 10 ∷ []) (c.push_bytes-2.ensures ∙ ap (λ t. t ++ c.escape.result.now) c.push_bytes.ensures ∙ append_assoc front (32 ∷ []) c.escape.result.now ∙ ap (λ t. front ++ (32 ∷ t)) c.escape.ensures)
    ∙ ap (λ t. (t ++ (32 ∷ escaped name)) ++ 10 ∷ []) (c.kind_text-line.ensures.text node tree st) in
    subst (PutAppends (g.O.Sink.written c.args.out.now) (g.O.Sink.written c.put.new.self) c.put.result) (c.as_slice.ensures.value ∙ built) c.put.ensures.bytes
