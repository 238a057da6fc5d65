use Rattle.ct_words.specs.Shown.{shown_word}
use Rattle.std.proofs.Common.{◌≡◌, ℕ, ◌*◌, ◌<◌, ◌≤◌, false}
use Rattle.ct_base.specs.Ranges.{byte_shown, fits}
use Rattle.ct_header.proofs.scan.first_slot.Given as goal

abbrev pub invariant-loop-eight : goal.invariant-loop-eight
invariant-loop-eight g l = (b : ℕ) → 10 ≤ b → b < 8 * l.eight → fits l.sought (byte_shown (shown_word (g.D.Pm.words l.dev)) 9 b) ≡ false
