use Rattle.ct_base.specs.Headers.{is_one}
use Rattle.ct_parts.proofs.Lists.{live_set}
use Rattle.ct_parts.proofs.Says.{shown_is_byte, byte-shown}
use Rattle.ct_parts.proofs.header_bytes.Goals as goal

pub returns-clause-published : goal.returns-clause-published
returns-clause-published c ps n j le apart = shown_is_byte (is_one ps) n j le (live_set ps apart)

pub returns-clause-only : goal.returns-clause-only
returns-clause-only c ps n j b le apart is = byte-shown (is_one ps) n j b le (live_set ps apart) is
