use Rattle.std.proofs.Common.{rules}
use Rattle.std.proofs.lemmas.List.Sorted.{IsNonDecreasingBy-from_sort_by_key}
use Rattle.ct_placing.proofs.Collecting.{extents_moved}
use Rattle.ct_placing.proofs.extents.sorted_extents.Goals as goal

pub returns-clause-extents : goal.returns-clause-extents
returns-clause-extents g c = extents_moved _ _ c.sort_unstable_by_key.ensures.permutation c.in_ok-extents.ensures

pub returns-clause-sorted : goal.returns-clause-sorted
returns-clause-sorted g c = IsNonDecreasingBy-from_sort_by_key (λ e. e.base) _ c.sort_unstable_by_key.ensures.sorted (λ a r q k. search rules)
