use Rattle.std.proofs.Common.{◌≡◌, ℕ, ◌<◌, length, get_or}
use Rattle.std.specs.Prelude.{◌⊎◌}
use Rattle.pm_file.specs.Lines.{IsCleared, IsKept}
use Rattle.pm_file.proofs.marks.clear_pages.Given as goal

abbrev pub invariant-loop-page : goal.invariant-loop-page
invariant-loop-page l = record {
  stored_size : length l.stored.items ≡ length l.fn.stored.items;
  marked_size : length l.marked.items ≡ length l.fn.marked.items;
  cleared : (k : ℕ) → k < l.page-index → get_or l.marked.items (get_or l.pages k 0) 0 ≡ 0;
  each : (page : ℕ) → IsCleared l.fn.stored.items l.fn.marked.items l.stored.items l.marked.items page ⊎ IsKept l.fn.stored.items l.fn.marked.items l.stored.items l.marked.items page;
}
