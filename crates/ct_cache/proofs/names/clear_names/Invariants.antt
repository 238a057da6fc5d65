use Rattle.std.proofs.Common.{◌≡◌, ℕ, ◌<◌, ◌≤◌, None, length, get_or}
use Rattle.ct_cache.specs.Cells.{left_by, name_key}
use Rattle.ct_cache.specs.Known.{is_of}
use Rattle.ct_cache.proofs.names.clear_names.Given as goal

-- of the cells so far the rest is there, and those that come are as they were
abbrev pub invariant-loop-i : goal.invariant-loop-i
invariant-loop-i l = record {
  size : length l.cells.items ≡ length l.fn.cells.items;
  left : (k : ℕ) → k < l.i → get_or l.cells.items k None ≡ left_by name_key (is_of l.number) (get_or l.fn.cells.items k None);
  coming : (k : ℕ) → l.i ≤ k → get_or l.cells.items k None ≡ get_or l.fn.cells.items k None;
}
