use Rattle.create_stops.proofs.Rested.{rested_parts, rested_tables, rested_stand}
use Rattle.create_stops.proofs.rest.lowest_free.Goals as goal

pub pick-requires-clause-tables : goal.pick-requires-clause-tables
pick-requires-clause-tables g c = rested_tables c.requires.lands.1 c.in_ok-rested.ensures (c.has_record.ensures.record (c.if-not-has_record.false)).0

pub pick-requires-clause-stands : goal.pick-requires-clause-stands
pick-requires-clause-stands g c = (rested_parts (g.D.Pm.words c.args.dev), rested_stand c.requires.lands.1 c.in_ok-rested.ensures)
