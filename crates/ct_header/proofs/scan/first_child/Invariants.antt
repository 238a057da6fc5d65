use Rattle.ct_words.specs.Shown.{shown_word}
use Rattle.std.proofs.Common.{◌≡◌, ℕ, ◌+◌, ◌*◌, ◌<◌, ◌≤◌, false}
use Rattle.ct_base.specs.Ranges.{byte_shown, fits}
use Rattle.ct_header.proofs.scan.first_child.Given as goal

abbrev pub invariant-loop-i : goal.invariant-loop-i
invariant-loop-i g l = (b : ℕ) → 8 * l.number + l.from ≤ b → b < 8 * l.number + l.i → fits l.sought (byte_shown (shown_word (g.D.Pm.words l.dev)) l.level b) ≡ false
