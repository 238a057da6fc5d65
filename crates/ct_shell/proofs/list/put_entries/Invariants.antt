use Rattle.std.proofs.Common.{◌≡◌, ◌≤◌, Some, None, length}
use Rattle.std.specs.Option.{option_map}
use Rattle.ct_call.specs.Calls.{StandsFor}
use Rattle.ct_call.specs.Mounted.{Volume}
use Rattle.ct_fs.specs.Mounts.{mounts}
use Rattle.ct_tree.specs.Checks.{at}
use Rattle.ct_tree.specs.Step.{list, listed_in, refusal}
use Rattle.ct_tree.specs.Tree.{Tree}
use Rattle.ct_shell.proofs.Names.{IsListed}
use Rattle.ct_shell.proofs.list.put_entries.Given as goal

-- how many names are written, and which follows them
abbrev pub invariant-loop : goal.invariant-loop
invariant-loop g l = record {
  listed : (was : Volume g.row.D.Denot) → mounts l.fs ≡ Some was → (t : Tree) → StandsFor (g.D.Pm.words was.dev) t → refusal t (list l.path) ≡ None → l.count ≡ length (listed_in (at t l.path))
      → IsListed (listed_in (at t l.path)) l.counter (option_map (λ name. name.items) l.last) (g.O.Sink.written l.fn.out) (g.O.Sink.written l.out);
  later : g.O.Sink.faults l.fn.out ≤ g.O.Sink.faults l.out;
}
