use Rattle.std.proofs.Common.{◌≡◌, ℕ, ◌+◌, ◌*◌, ◌<◌, ◌≤◌, length}
use Rattle.std.specs.Prelude.{slice_index}
use Rattle.ct_base.specs.Inode.{little}
use Rattle.ct_base.specs.View.{view}
use Rattle.ct_stage.specs.Edited.{edited}
use Rattle.ct_words.specs.Shown.{shown_word}
use Rattle.ct_stage.proofs.edit.mixed_page.Given as goal

abbrev pub invariant-loop-k : goal.invariant-loop-k
invariant-loop-k g l = record {
  size : length l.words ≡ 512;
  words : (j : ℕ) → j < l.k → slice_index l.words j ≡ little (edited (view (g.D.Pm.words l.dev)) l.edit) (l.at + 8 * j) 8;
  left : (j : ℕ) → l.k ≤ j → j < 512 → slice_index l.words j ≡ shown_word (g.D.Pm.words l.dev) (l.at + 8 * j);
}
