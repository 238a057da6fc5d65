use Rattle.ct_look.proofs.Looking.{dir_readable, list_file, listed_more, listed_there}
use Rattle.ct_look.proofs.entries.entries_at.Goals as goal

pub returns-then-dir-ne-DIRECTORY_KIND-clause-answer : goal.returns-then-dir-ne-DIRECTORY_KIND-clause-answer
returns-then-dir-ne-DIRECTORY_KIND-clause-answer g c = λ t s. list_file c.requires.rest c.in_ok-dir.ensures t s c.if-dir-ne-DIRECTORY_KIND.true

pub sorted_offsets-requires : goal.sorted_offsets-requires
sorted_offsets-requires g c = dir_readable c.requires.rest c.in_ok-dir.ensures c.if-dir-ne-DIRECTORY_KIND.false

pub returns-in-Some-clause-answer : goal.returns-in-Some-clause-answer
returns-in-Some-clause-answer g c = λ t s.
    listed_there c.requires.rest c.in_ok-dir.ensures t s c.if-dir-ne-DIRECTORY_KIND.false c.args.offsets.now c.sorted_offsets.new.offsets c.in-Some.count c.in-Some.ensures.sorted c.in-Some.ensures.count c.in-Some.ensures.room

pub returns-in-Some-clause-slots : goal.returns-in-Some-clause-slots
returns-in-Some-clause-slots g c = record {
  readable = dir_readable c.requires.rest c.in_ok-dir.ensures c.if-dir-ne-DIRECTORY_KIND.false;
  slots = c.in-Some.ensures.sorted.offsets.each;
}

pub returns-in-None-clause-answer : goal.returns-in-None-clause-answer
returns-in-None-clause-answer g c = λ t s.
    listed_more c.requires.rest c.in_ok-dir.ensures t s c.if-dir-ne-DIRECTORY_KIND.false c.args.offsets.now c.sorted_offsets.new.offsets c.in-None.ensures.more
