use Rattle.std.proofs.Common.{◌≡◌, ℕ}
use Rattle.std.specs.Option.{option_map}
use Rattle.ct_call.specs.Calls.{Keeps}
use Rattle.ct_tree.specs.Resolve.{entries_in}
use Rattle.ct_tree.specs.Step.{count}
use Rattle.ct_tree.specs.Tree.{Tree}
use Rattle.ct_tally.proofs.Root.{Summed}
use Rattle.ct_tally.proofs.entries.bytes_in_root.Given as goal

-- which entry is next, and the bytes of those before it
abbrev pub invariant-loop : goal.invariant-loop
invariant-loop g l = (n : ℕ) (t : Tree) → Keeps n l.fs.state t → l.count ≡ count (entries_in t) → Summed t l.counter (option_map (λ name. name.items) l.next) l.bytes
