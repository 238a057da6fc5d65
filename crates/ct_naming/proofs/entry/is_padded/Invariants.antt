use Rattle.std.proofs.Common.{◌≡◌, ℕ, ◌+◌, ◌<◌, ◌≤◌}
use Rattle.ct_naming.specs.Slots.{byte_at}
use Rattle.ct_naming.proofs.entry.is_padded.Given as goal

abbrev pub invariant-loop-k : goal.invariant-loop-k
invariant-loop-k g l = (k : ℕ) → 8 + l.length ≤ k → k < l.k → byte_at (g.D.Pm.words l.dev) l.slot.place k ≡ 0
