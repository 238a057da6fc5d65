use Rattle.std.proofs.Common.{◌≡◌, ℕ, ◌<◌, None, length, get_or}
use Rattle.ct_cache.proofs.clearing.clear_all.Given as goal

-- the cells so far are empty
abbrev pub invariant-loop-i : goal.invariant-loop-i
invariant-loop-i g l = record {
  size : length l.cells.items ≡ length l.fn.cells.items;
  empty : (k : ℕ) → k < l.i → get_or l.cells.items k None ≡ None;
}
