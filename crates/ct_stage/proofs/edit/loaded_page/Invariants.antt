use Rattle.std.proofs.Common.{◌≡◌, ℕ, ◌+◌, ◌*◌, ◌<◌, length}
use Rattle.std.specs.Prelude.{slice_index}
use Rattle.ct_base.specs.Walk.{word}
use Rattle.ct_stage.proofs.edit.loaded_page.Given as goal

abbrev pub invariant-loop-k : goal.invariant-loop-k
invariant-loop-k g l = record {
  size : length l.words ≡ 512;
  words : (j : ℕ) → j < l.k → slice_index l.words j ≡ word (g.D.Pm.words l.dev) (l.page * 512 + j);
}
