use Rattle.std.proofs.Common.{◌≡◌, ◌≤◌, Some, map, take}
use Rattle.std.specs.Io.KnownBytes.{Appends}
use Rattle.ct_base.specs.Slots.{slot_name}
use Rattle.ct_call.specs.Mounted.{Volume}
use Rattle.ct_dir.specs.Directory.{dir_of}
use Rattle.ct_fs.specs.Mounts.{mounts}
use Rattle.ct_shell.proofs.Names.{names_to}
use Rattle.ct_shell.proofs.sorted.put_sorted.Given as goal

-- how many names are written
abbrev pub invariant-loop-k : goal.invariant-loop-k
invariant-loop-k g l = record {
  listed : (was : Volume g.row.D.Denot) → mounts l.fs ≡ Some was
      → Appends (g.O.Sink.written l.fn.out) (g.O.Sink.written l.out) (names_to (map (slot_name (dir_of (g.D.Pm.words was.dev) l.listing.dir)) (take l.listing.count l.offsets)) l.k);
  later : g.O.Sink.faults l.fn.out ≤ g.O.Sink.faults l.out;
}
