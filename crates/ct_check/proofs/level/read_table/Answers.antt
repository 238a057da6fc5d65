use Rattle.std.proofs.Common.{arith}
use Rattle.ct_check.proofs.Reading.{reads_move}
use Rattle.ct_check.proofs.level.read_table.Goals as goal

pub loop-i-preserved : goal.loop-i-preserved
loop-i-preserved g c = record {
  next = c.in_ok-read_entry.ensures.next;
  met = c.in_ok-read_entry.ensures.met;
  reads = λ d at was. reads_move (omega arith) (c.in_ok-read_entry.ensures.reads d at (c.loop-i.invariant.reads d at was));
}

pub returns-clause-reads : goal.returns-clause-reads
returns-clause-reads g c = λ d at was. reads_move (omega arith) (c.loop-i.invariant.reads d at was)
