use Rattle.std.proofs.Common.{rules}
use Rattle.ct_naming.specs.Spelling.{key}
use Rattle.ct_dir.proofs.Sorting.{sorted_from}
use Rattle.ct_naming.proofs.Spelt.{names_moved}
use Rattle.ct_naming.proofs.names.sorted_names.Goals as goal

pub returns-clause-names : goal.returns-clause-names
returns-clause-names g c = names_moved _ _ c.sort_unstable_by.ensures.permutation c.in_ok-names.ensures

pub returns-clause-sorted : goal.returns-clause-sorted
returns-clause-sorted g c = sorted_from (key (g.D.Pm.words c.args.dev.now) c.args.dir) _ c.sort_unstable_by.ensures.sorted (λ a r q k. search rules)
