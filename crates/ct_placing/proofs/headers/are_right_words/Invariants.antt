use Rattle.std.proofs.Common.{◌≡◌, ◌-◌, ◌%◌, ◌≤◌}
use Rattle.ct_placing.specs.Heading.{AreHeaderWords, parts_of, word_of}
use Rattle.ct_placing.proofs.headers.are_right_words.Given as goal

abbrev pub invariant-loop-address : goal.invariant-loop-address
invariant-loop-address g l = record {
  aligned : l.address % 8 ≡ 0;
  from : 549755813888 ≤ l.address;
  to : l.address ≤ 1099511627776;
  words : AreHeaderWords (word_of (g.D.Pm.words l.dev)) (parts_of (g.D.Pm.words l.dev)) 549755813888 l.address;
}

abbrev pub decreases-loop-address : goal.decreases-loop-address
decreases-loop-address g l = 1099511627776 - l.address
