use Rattle.std.proofs.Common.{rules}
use Rattle.ct_dir.specs.Sorting.{name_key}
use Rattle.ct_dir.proofs.Sorting.{sorted_from}
use Rattle.ct_dir.proofs.sorted.sort_offsets.Goals as goal

pub returns-clause-sorted : goal.returns-clause-sorted
returns-clause-sorted g c = sorted_from (name_key (g.D.Pm.words c.args.dev.now) c.args.dir) _ c.sort_unstable_by.ensures.sorted (λ a r q k. search rules)
