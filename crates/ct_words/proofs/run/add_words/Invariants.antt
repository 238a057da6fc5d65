use Rattle.std.proofs.Common.{◌≡◌, ◌+◌, ◌≤◌, ◌++◌}
use Rattle.ct_base.specs.Words.{pairs_to}
use Rattle.ct_record.specs.Seen.{Drafts, count_of, faults_under, pairs_of}
use Rattle.ct_words.proofs.run.add_words.Given as goal

abbrev pub invariant-loop-i : goal.invariant-loop-i
invariant-loop-i g l = record {
  added : pairs_of l.draft ≡ pairs_to l.place l.values l.i ++ pairs_of l.fn.draft;
  count : count_of l.draft ≡ count_of l.fn.draft + l.i;
  drafts : Drafts l.fn.draft l.draft;
  faults : faults_under l.fn.draft ≤ faults_under l.draft;
}
