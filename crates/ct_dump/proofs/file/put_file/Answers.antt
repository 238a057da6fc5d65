use Rattle.std.proofs.Common.{◌++◌, List, ℕ, subst, length}
use Rattle.ct_base.specs.Bytes.{PutAppends}
use Rattle.ct_script.proofs.Puts.{fault_first, put_second}
use Rattle.ct_tree.specs.Checks.{at}
use Rattle.ct_tree.specs.Content.{bytes_in}
use Rattle.ct_dump.specs.Dumped.{create_line, size_text, pages_text, page_count}
use Rattle.ct_dump.proofs.file.put_file.Goals as goal

-- the lines after the first, by the size
abbrev lines_after : List ℕ → List ℕ → ℕ → List ℕ
lines_after path bytes size = size_text path size ++ pages_text path bytes (page_count size) 0

pub returns-in-Ok-clause-bytes : goal.returns-in-Ok-clause-bytes
returns-in-Ok-clause-bytes g c =
    let path = c.args.path.now in
    let bytes = bytes_in (at (g.T.Seen.tree c.args.tree.now) path) in
    put_second c.put_content.result (g.O.Sink.written c.args.out.now) (g.O.Sink.written c.put_create.new.out) (g.O.Sink.written c.put_content.new.out) (create_line path) (lines_after path bytes (length bytes)) c.in-Ok.ensures.bytes
    (subst (λ n. PutAppends (g.O.Sink.written c.put_create.new.out) (g.O.Sink.written c.put_content.new.out) c.put_content.result (lines_after path bytes n)) c.requires.size c.put_content.ensures.bytes)

pub returns-in-Err-clause-bytes : goal.returns-in-Err-clause-bytes
returns-in-Err-clause-bytes g c =
    let path = c.args.path.now in
    let bytes = bytes_in (at (g.T.Seen.tree c.args.tree.now) path) in
    fault_first (g.O.Sink.written c.args.out.now) (g.O.Sink.written c.put_create.new.out) (create_line path) (lines_after path bytes (length bytes)) c.in-Err.ensures.bytes
