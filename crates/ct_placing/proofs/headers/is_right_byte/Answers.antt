use Rattle.ct_placing.proofs.Addresses.{wide_up}
use Rattle.ct_placing.proofs.headers.is_right_byte.Goals as goal

pub header-word-requires-clause-number : goal.header-word-requires-clause-number
header-word-requires-clause-number g c = wide_up c.args.level c.args.number c.requires.level c.requires.number
