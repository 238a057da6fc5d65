use Rattle.ct_laws.proofs.Tail.{zeros_past}
use Rattle.ct_laws.proofs.tails.a_longer_file_reads_zeros.Goals as goal

pub returns : goal.returns
returns c = zeros_past
