use Rattle.std.proofs.Common.{◌≡◌, ◌≤◌, ◌++◌, length, ℕ, List}
use Rattle.std.specs.Io.KnownBytes.{Appends}
use Rattle.hex.specs.Hex.{encode_lower}
use Rattle.ct_script.proofs.reply.put_digits.Given as goal

-- what was written is the digits of what was taken off the front
abbrev pub invariant-pieces : goal.invariant-pieces
invariant-pieces g l =
    (taken : List ℕ) × (taken ++ l.rest ≡ l.bytes) × Appends (g.O.Sink.written l.fn.out) (g.O.Sink.written l.out) (encode_lower taken) × (g.O.Sink.faults l.fn.out ≤ g.O.Sink.faults l.out)

abbrev pub decreases-pieces : goal.decreases-pieces
decreases-pieces g l = length l.rest
