use Rattle.std.proofs.Common.{◌≡◌, ℕ, ◌*◌, ◌-◌, ◌<◌, ◌≤◌, false, length}
use Rattle.ct_frames.specs.Free.{is_set}
use Rattle.ct_frames.proofs.bits.next_bit.Given as goal

abbrev pub invariant-loop-page : goal.invariant-loop-page
invariant-loop-page l = record {
  low : l.from ≤ l.page;
  passed : (q : ℕ) → l.from ≤ q → q < l.page → is_set l.words q ≡ false;
}

abbrev pub decreases-loop-page : goal.decreases-loop-page
decreases-loop-page l = 64 * length l.words - l.page
