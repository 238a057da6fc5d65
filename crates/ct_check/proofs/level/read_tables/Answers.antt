use Rattle.std.proofs.Common.{arith}
use Rattle.ct_check.proofs.Reading.{reads_move, reads_skip, empty_head}
use Rattle.ct_check.proofs.level.read_tables.Goals as goal

pub loop-table-init : goal.loop-table-init
loop-table-init g c = record {
  next = c.requires.next;
  met = c.requires.met;
  reads = λ d l was. reads_skip empty_head was;
}

pub loop-table-preserved : goal.loop-table-preserved
loop-table-preserved g c = record {
  next = c.in_ok-read_marked.ensures.next;
  met = c.in_ok-read_marked.ensures.met;
  reads = λ d l was. reads_move (omega arith) (c.in_ok-read_marked.ensures.reads d l (c.loop-table.invariant.reads d l was));
}

pub returns-clause-reads : goal.returns-clause-reads
returns-clause-reads g c = λ d l was. reads_move (omega (arith, c.requires.some)) (c.loop-table.invariant.reads d l was)
