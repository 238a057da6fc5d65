use Rattle.std.proofs.Common.{◌≢◌, ℕ, ◌+◌, ◌<◌, get_or}
use Rattle.ct_naming.specs.declared.spelled.Spelled.{Spelled}
use Rattle.ct_naming.specs.Spelling.{key}
use Rattle.ct_naming.proofs.names.are_neighbours_apart.Given as goal

abbrev pub invariant-loop-k : goal.invariant-loop-k
invariant-loop-k g l = (j : ℕ) (d : Spelled) → j + 1 < l.k → key (g.D.Pm.words l.dev) l.dir (get_or l.names.items j d) ≢ key (g.D.Pm.words l.dev) l.dir (get_or l.names.items (j + 1) d)
