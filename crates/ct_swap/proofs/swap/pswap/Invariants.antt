use Rattle.std.proofs.Common.{◌≤◌}
use Rattle.ct_record.specs.Seen.{Drafts, count_of, faults_under, pairs_of, words_under}
use Rattle.ct_swap.proofs.Pairing.{Swapping}
use Rattle.ct_swap.proofs.swap.pswap.Given as goal

abbrev pub invariant-loop-piece : goal.invariant-loop-piece
invariant-loop-piece g l = record {
  swapping : Swapping (words_under l.fn.draft) (pairs_of l.fn.draft) (pairs_of l.draft) l.a l.b l.n (count_of l.fn.draft) (count_of l.draft) l.piece-iterator;
  drafts : Drafts l.fn.draft l.draft;
  faults : faults_under l.fn.draft ≤ faults_under l.draft;
}
