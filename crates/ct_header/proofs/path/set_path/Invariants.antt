use Rattle.std.proofs.Common.{◌≡◌, ℕ, ◌+◌, ◌-◌, ◌<◌, ◌≤◌}
use Rattle.ct_base.specs.Inode.{nth}
use Rattle.ct_base.specs.Walk.{page_at}
use Rattle.ct_record.specs.Seen.{Drafts, count_of, faults_under, pairs_of, words_under}
use Rattle.ct_header.specs.Drafted.{AddsPairs, NamesHeader}
use Rattle.ct_words.specs.Drafted.{MapsAlike}
use Rattle.ct_record.specs.Seen.{drafted}
use Rattle.ct_words.specs.Shown.{shown_word}
use Rattle.ct_header.proofs.path.set_path.Given as goal
use Rattle.ct_parts.proofs.Path.{OnWay}

abbrev pub invariant-loop-at : goal.invariant-loop-at
invariant-loop-at g l = record {
  way : OnWay l.level l.number l.fn.byte (shown_word (drafted l.fn.draft)) (shown_word (drafted l.draft)) (l.at - l.level) l.child l.above;
  maps : MapsAlike 1 (words_under l.draft) (drafted l.draft);
  cells : (d y : ℕ) → d ≤ 4 → page_at (drafted l.draft) d y ≡ page_at (drafted l.fn.draft) d y;
  pairs : AddsPairs (NamesHeader (words_under l.fn.draft) (nth l.level l.number)) (pairs_of l.fn.draft) (pairs_of l.draft);
  some : count_of l.fn.draft < count_of l.draft;
  count : count_of l.draft ≤ count_of l.fn.draft + (l.at - l.level);
  drafts : Drafts l.fn.draft l.draft;
  faults : faults_under l.fn.draft ≤ faults_under l.draft;
}
