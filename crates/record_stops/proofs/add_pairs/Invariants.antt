use Rattle.std.proofs.Common.{◌≡◌, ◌≤◌}
use Rattle.ct_pm.specs.Device.{MakesOnly}
use Rattle.ct_record.specs.Record.{StaysInLine}
use Rattle.ct_record.specs.Seen.{IsShort, told_under}
use Rattle.record_stops.proofs.add_pairs.Given as goal

abbrev pub invariant-loop-i : goal.invariant-loop-i
invariant-loop-i g l = record {
  count : l.draft.count ≡ l.i;
  short : l.pairs ≤ 3 → IsShort l.initial.draft → IsShort l.draft;
  line : l.pairs ≤ 3 → IsShort l.initial.draft → MakesOnly StaysInLine (told_under l.initial.draft) (told_under l.draft);
}
