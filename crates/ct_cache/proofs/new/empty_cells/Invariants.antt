use Rattle.std.proofs.Common.{◌≡◌, None, replicate}
use Rattle.ct_cache.proofs.new.empty_cells.Given as goal

-- so many cells are there, all of them empty
abbrev pub invariant-loop : goal.invariant-loop
invariant-loop g l = l.cells.items ≡ replicate l.counter None
