use Rattle.std.proofs.Common.{sym}
use Rattle.ct_record.proofs.Drafts.{place_short, place_long}
use Rattle.ct_record.proofs.pair.drafted_at.Goals as goal

pub returns-then-count-gt3 : goal.returns-then-count-gt3
returns-then-count-gt3 c = sym (place_long c.args.count c.if-count-gt3.true)

pub returns : goal.returns
returns c = sym (place_short c.args.count c.if-count-gt3.false)
