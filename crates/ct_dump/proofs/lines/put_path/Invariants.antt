use Rattle.std.proofs.Common.{◌≡◌, ◌≤◌, ◌++◌, length, ℕ, List}
use Rattle.std.specs.Io.KnownBytes.{Appends}
use Rattle.ct_script.specs.Texts.{escaped}
use Rattle.ct_dump.proofs.lines.put_path.Given as goal

-- what was written is the bytes that were taken off the front, escaped
abbrev pub invariant-pieces : goal.invariant-pieces
invariant-pieces g l =
    (taken : List ℕ) × (taken ++ l.rest ≡ l.path) × Appends (g.O.Sink.written l.fn.out) (g.O.Sink.written l.out) (escaped taken) × (g.O.Sink.faults l.fn.out ≤ g.O.Sink.faults l.out)

abbrev pub decreases-pieces : goal.decreases-pieces
decreases-pieces g l = length l.rest
