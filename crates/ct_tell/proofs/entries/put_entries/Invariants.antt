use Rattle.std.proofs.Common.{◌≤◌}
use Rattle.std.specs.Option.{option_map}
use Rattle.ct_tree.specs.Lands.{files}
use Rattle.ct_tree.specs.Ordered.{AreEntries}
use Rattle.ct_tree.specs.Stands.{Stands}
use Rattle.ct_tree.specs.Tree.{Dir, Entries}
use Rattle.ct_tell.proofs.EntryLines.{IsListed}
use Rattle.ct_tell.proofs.entries.put_entries.Given as goal

-- how many lines are written, and which name follows them
abbrev pub invariant-loop : goal.invariant-loop
invariant-loop g l = record {
  listed : (es : Entries) → Stands (files (g.D.Pm.words l.dev)) l.number (Dir es) → AreEntries es
      → IsListed es l.counter (option_map (λ name. name.items) l.last) (g.O.Sink.written l.fn.out) (g.O.Sink.written l.out);
  later : g.O.Sink.faults l.fn.out ≤ g.O.Sink.faults l.out;
}
