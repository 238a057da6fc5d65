use Rattle.std.proofs.Common.{ℕ, ◌*◌, ◌<◌, ◌≤◌}
use Rattle.ct_placing.specs.Heading.{IsRightChild, parts_of, word_of}
use Rattle.ct_placing.proofs.headers.is_right_header.Given as goal

abbrev pub invariant-loop-child : goal.invariant-loop-child
invariant-loop-child g l = (c : ℕ) → 8 * l.number ≤ c → c < l.child → IsRightChild (word_of (g.D.Pm.words l.dev)) (parts_of (g.D.Pm.words l.dev)) l.level c
