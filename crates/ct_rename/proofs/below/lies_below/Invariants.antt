use Rattle.std.proofs.Common.{◌≡◌}
use Rattle.ct_tree.specs.Resolve.{lies_below}
use Rattle.ct_rename.proofs.below.lies_below.Given as goal

-- the names that are left decide
abbrev pub invariant-loop-name : goal.invariant-loop-name
invariant-loop-name l = lies_below l.name-iterator l.left ≡ lies_below l.fn.names l.fn.to
