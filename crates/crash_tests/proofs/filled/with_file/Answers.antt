use Rattle.ct_tree.specs.Tree.{Dir, none}
use Rattle.create_stops.proofs.Called.{call_lands}
use Rattle.crash_tests.proofs.filled.with_file.Goals as goal

pub returns : goal.returns
returns c = call_lands c.in_ok-fs.fs.state c.create.new.self.state c.unmount.result (Dir none) c.in_ok-fs.ensures c.create.ensures.does c.unmount.ensures
