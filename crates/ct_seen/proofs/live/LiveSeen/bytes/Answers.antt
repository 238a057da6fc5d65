use Rattle.ct_tree.specs.Checks.{at}
use Rattle.ct_tree.specs.Content.{bytes_in}
use Rattle.ct_seen.proofs.Shown.{bytes_prop, number_prop, of_held, read_bytes, read_count}
use Rattle.ct_seen.proofs.live.LiveSeen.bytes.Goals as goal

pub returns-clause-count : goal.returns-clause-count
returns-clause-count g c =
    let live = c.args.self.now in
    let bytes = bytes_in (at live.held.0 c.args.path.now) in
    of_held (number_prop _ _) live.fs.now.state live.held (λ was is stands.
    read_count bytes c.args.buf.now c.read.new.buf c.args.off c.in-Ok.count (c.in-Ok.ensures.answer was is live.held.0 stands).1)

pub returns-clause-bytes : goal.returns-clause-bytes
returns-clause-bytes g c =
    let live = c.args.self.now in
    let bytes = bytes_in (at live.held.0 c.args.path.now) in
    of_held (bytes_prop _ _) live.fs.now.state live.held (λ was is stands.
    read_bytes bytes c.args.buf.now c.read.new.buf c.args.off c.in-Ok.count (c.in-Ok.ensures.answer was is live.held.0 stands).1)
