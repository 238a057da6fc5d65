use Rattle.std.proofs.Common.{◌+◌, ◌<◌, ◌≤◌}
use Rattle.ct_record.specs.Seen.{Drafts, count_of, faults_under, pairs_of, words_under}
use Rattle.ct_words.specs.Drafted.{PutFirst}
use Rattle.ct_words.proofs.run.add_changed.Given as goal

abbrev pub invariant-loop-i : goal.invariant-loop-i
invariant-loop-i g l = record {
  puts : PutFirst l.place l.values l.i (words_under l.fn.draft) (pairs_of l.fn.draft) (pairs_of l.draft);
  some : 0 < l.i → count_of l.fn.draft < count_of l.draft;
  few : count_of l.draft ≤ count_of l.fn.draft + l.i;
  drafts : Drafts l.fn.draft l.draft;
  faults : faults_under l.fn.draft ≤ faults_under l.draft;
}
