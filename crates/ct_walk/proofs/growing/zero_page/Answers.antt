use Rattle.std.proofs.Common.{◌*◌}
use Rattle.ct_walk.proofs.Zeros.{quiet_cleared, made_cleared}
use Rattle.ct_walk.proofs.growing.zero_page.Goals as goal

pub returns-clause-quiet : goal.returns-clause-quiet
returns-clause-quiet g c = quiet_cleared (c.args.page * 512) 512 c.zero_words.ensures.quiet c.flush_lines.ensures.quiet

pub returns-clause-made : goal.returns-clause-made
returns-clause-made g c = made_cleared (c.args.page * 512) 512 c.zero_words.ensures.made c.flush_lines.ensures.made
