use Rattle.std.proofs.Common.{◌≡◌, ◌∙◌, Ok, None, length, sym, ap, subst, ℕ}
use Rattle.std.specs.Io.KnownBytes.{Appends}
use Rattle.std.specs.Prelude.{take}
use Rattle.ct_find.proofs.Leading.{checked_by}
use Rattle.ct_find.proofs.Living.{size_is}
use Rattle.ct_tree.specs.Checks.{at, no_file}
use Rattle.ct_tree.specs.Content.{bytes_in, range}
use Rattle.ct_tree.specs.Step.{locate, refusal}
use Rattle.ct_tree.specs.Tree.{File}
use Rattle.ct_tell.proofs.Answering.{done_comes, torn_comes}
use Rattle.ct_tell.proofs.Pieces.{content_is, content_long}
use Rattle.ct_tell.proofs.content.put_bytes.Goals as goal

pub returns-in-Ok-put_range-clause-ends : goal.returns-in-Ok-put_range-clause-ends
returns-in-Ok-put_range-clause-ends g c t st =
    let path = c.args.path.now in
    let found = c.in-Ok.ensures in
    let node = found.node t st in
    let bytes = bytes_in (at t path) in
    let size : c.in-Ok.file.1.size ≡ length (bytes_in (at t path)) = sym (size_is c.requires.rest found.live found.is) ∙ node.2.size ∙ sym (ap (λ a. length (bytes_in a)) node.1) in
    let allowed : refusal t (locate path) ≡ None = checked_by no_file t path (Ok (File node.0)) found.valid node.1 in
    let from = c.min-from.result in
    let more = c.min.result in
    let long = content_long bytes c.args.off c.args.len c.in-Ok.file.1.size from more size c.min-from.ensures c.min.ensures in
    let put = c.in-Ok-put_range.ensures.bytes t st allowed long in
    done_comes (refusal t (locate path)) (range bytes c.args.off c.args.len) (g.O.Sink.written c.args.out.now) (g.O.Sink.written c.put_range.new.out) allowed
    (subst (Appends (g.O.Sink.written c.args.out.now) (g.O.Sink.written c.put_range.new.out)) (content_is bytes c.args.off c.args.len c.in-Ok.file.1.size from more size c.min-from.ensures c.min.ensures) put)

pub returns-in-Err-put_range-clause-ends : goal.returns-in-Err-put_range-clause-ends
returns-in-Err-put_range-clause-ends g c t st =
    let path = c.args.path.now in
    let found = c.in-Ok.ensures in
    let node = found.node t st in
    let bytes = bytes_in (at t path) in
    let size : c.in-Ok.file.1.size ≡ length (bytes_in (at t path)) = sym (size_is c.requires.rest found.live found.is) ∙ node.2.size ∙ sym (ap (λ a. length (bytes_in a)) node.1) in
    let allowed : refusal t (locate path) ≡ None = checked_by no_file t path (Ok (File node.0)) found.valid node.1 in
    let from = c.min-from.result in
    let more = c.min.result in
    let long = content_long bytes c.args.off c.args.len c.in-Ok.file.1.size from more size c.min-from.ensures c.min.ensures in
    let put = c.in-Err-put_range.ensures.bytes t st allowed long in
    torn_comes (refusal t (locate path)) (range bytes c.args.off c.args.len) (g.O.Sink.written c.args.out.now) (g.O.Sink.written c.put_range.new.out) allowed
    (subst (λ text. (k : ℕ) × Appends (g.O.Sink.written c.args.out.now) (g.O.Sink.written c.put_range.new.out) (take k text)) (content_is bytes c.args.off c.args.len c.in-Ok.file.1.size from more size c.min-from.ensures c.min.ensures) put)
