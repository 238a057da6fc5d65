use Rattle.ct_script.proofs.Puts.{fault_first, put_second}
use Rattle.ct_tree.specs.Checks.{at}
use Rattle.ct_tree.specs.Content.{bytes_in}
use Rattle.ct_dump.specs.Dumped.{size_text, pages_text, page_count}
use Rattle.ct_dump.proofs.file.put_content.Goals as goal

pub returns-in-Ok-clause-bytes : goal.returns-in-Ok-clause-bytes
returns-in-Ok-clause-bytes g c =
    put_second c.put_pages.result (g.O.Sink.written c.args.out.now) (g.O.Sink.written c.put_size_of.new.out) (g.O.Sink.written c.put_pages.new.out) (size_text c.args.path.now c.args.size) (pages_text c.args.path.now (bytes_in (at (g.T.Seen.tree c.args.tree.now) c.args.path.now)) (page_count c.args.size) 0) c.in-Ok.ensures.bytes c.put_pages.ensures.bytes

pub returns-in-Err-clause-bytes : goal.returns-in-Err-clause-bytes
returns-in-Err-clause-bytes g c =
    fault_first (g.O.Sink.written c.args.out.now) (g.O.Sink.written c.put_size_of.new.out) (size_text c.args.path.now c.args.size) (pages_text c.args.path.now (bytes_in (at (g.T.Seen.tree c.args.tree.now) c.args.path.now)) (page_count c.args.size) 0) c.in-Err.ensures.bytes
