use Rattle.std.proofs.Common.{◌≡◌, ℕ, ◌+◌, ◌/◌, ◌<◌, ◌≤◌, length, true, false}
use Rattle.ct_frames.specs.Free.{is_set}
use Rattle.ct_frames.proofs.map.Frames.new.Given as goal

abbrev pub invariant-loop-page : goal.invariant-loop-page
invariant-loop-page l = record {
  size : length l.words.items ≡ (l.pages + 63) / 64;
  low : (q : ℕ) → q < 34 → is_set l.words.items q ≡ false;
  set : (q : ℕ) → 34 ≤ q → q < l.page → is_set l.words.items q ≡ true;
  high : (q : ℕ) → l.page ≤ q → is_set l.words.items q ≡ false;
}
