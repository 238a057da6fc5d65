use Rattle.ct_shell.proofs.Lines.{long_line}
use Rattle.ct_shell.proofs.script.is_empty.Goals as goal

pub returns-in_default : goal.returns-in_default
returns-in_default c item = long_line c.args.line.now item c.in_default.len_at_least
