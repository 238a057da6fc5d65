use Rattle.std.proofs.Common.{◌≡◌, ℕ, ◌-◌, ◌%◌, ◌<◌, ◌≤◌}
use Rattle.ct_words.specs.Shown.{shown_word}
use Rattle.ct_placing.proofs.zeros.are_zero_between.Given as goal

abbrev pub invariant-loop-a : goal.invariant-loop-a
invariant-loop-a g l = record {
  aligned : l.a % 8 ≡ 0;
  order : l.from ≤ l.a;
  zeros : (x : ℕ) → l.from ≤ x → x < l.a → x % 8 ≡ 0 → shown_word (g.D.Pm.words l.dev) x ≡ 0;
}

abbrev pub decreases-loop-a : goal.decreases-loop-a
decreases-loop-a g l = l.to - l.a
