use Rattle.std.proofs.Common.{ℕ, ◌<◌}
use Rattle.ct_base.specs.Inode.{part_bytes}
use Rattle.ct_level.proofs.level.level_for.Given as goal

abbrev pub invariant-loop-level : goal.invariant-loop-level
invariant-loop-level l = (k : ℕ) → k < l.level → part_bytes k < l.end
