use Rattle.std.specs.Prelude.{ℕ, ◌+◌, ◌*◌, IsBitSet}
use Rattle.pm_file.specs.Kept.{IsAsKept}
use Rattle.pm_file.proofs.kept.Kept.same_lines.Given as goal

abbrev pub invariant-loop-kept : goal.invariant-loop-kept
invariant-loop-kept l = (line : ℕ) → IsBitSet l.same line → IsAsKept l.fn.self.lines.items l.fn.words (64 * l.fn.page + line)
