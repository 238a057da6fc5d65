use Rattle.std.proofs.Common.{◌≢◌, ◌<◌, length}
use Rattle.std.proofs.lemmas.List.Sorted.{All-permutation, IsPermutation-sym}
use Rattle.pm_file.proofs.marks.Marks.sort.Goals as goal

pub invariant_of-self-clause-in_range : goal.invariant_of-self-clause-in_range
invariant_of-self-clause-in_range c = All-permutation (λ x. x < length c.args.self.now.marked.items) _ _ c.sort_unstable.ensures.permutation c.args.self.now.in_range

pub invariant_of-self-clause-listed : goal.invariant_of-self-clause-listed
invariant_of-self-clause-listed c = λ page all. c.args.self.now.listed page (All-permutation (λ x. x ≢ page) _ _ (IsPermutation-sym _ _ c.sort_unstable.ensures.permutation) all)
