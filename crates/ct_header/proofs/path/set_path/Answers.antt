use Rattle.std.proofs.Common.{refl, ◌+◌, ◌/◌, ◌∙◌, arith}
use Rattle.ct_base.specs.Inode.{nth}
use Rattle.ct_parts.proofs.Path.{on_way_zero, on_way_more, on_way_end, on_way_number}
use Rattle.ct_record.proofs.Chain.{drafts_here, drafts_then}
use Rattle.ct_record.specs.Seen.{pairs_of, words_under}
use Rattle.ct_header.specs.Drafted.{NamesHeader}
use Rattle.ct_record.specs.Seen.{drafted}
use Rattle.ct_words.specs.Shown.{shown_word}
use Rattle.ct_header.proofs.Chained.{adds_none, adds_header, there_now, on_path_now, bytes_stay}
use Rattle.ct_header.proofs.Stays.{stays}
use Rattle.ct_header.proofs.path.set_path.Goals as goal

pub set_byte-requires-clause-there : goal.set_byte-requires-clause-there
set_byte-requires-clause-there g c =
    let img = words_under c.args.draft.now in
    let words = shown_word (drafted c.args.draft.now) in
    there_now img img c.args.level c.args.number c.args.byte c.args.level c.args.number c.args.byte words words
    c.requires.there (drafts_here c.args.draft.now).same (on_way_zero c.args.level c.args.number c.args.byte words) (omega arith) c.requires.partition.level

pub loop-at-init : goal.loop-at-init
loop-at-init g c =
    let before = shown_word (drafted c.args.draft.now) in
    let after = shown_word (drafted c.set_byte.new.draft) in
    let start = on_way_zero c.args.level c.args.number c.args.byte before in
    let img = words_under c.args.draft.now in
    let e = c.in_ok-above.ensures in
    record {
      way = on_way_more c.args.level c.args.number c.args.byte before before after c.args.level c.args.number c.args.byte c.in_ok-above.above
          start (omega arith) c.requires.partition.level e.written e.up e.others;
      maps = e.maps;
      cells = e.cells;
      pairs = adds_header img img (nth c.args.level c.args.number) (pairs_of c.args.draft.now) (pairs_of c.args.draft.now) (pairs_of c.set_byte.new.draft)
          _ e.added.0 (drafts_here c.args.draft.now).same
          (on_path_now c.args.level c.args.number c.args.byte c.args.level c.args.number c.args.byte before before start (omega arith) c.requires.partition.level)
          (adds_none (NamesHeader img (nth c.args.level c.args.number)) (pairs_of c.args.draft.now)) e.added.1;
      some = omega (arith, e.count);
      count = omega (arith, e.count);
      drafts = c.set_byte.ensures.drafts;
      faults = c.set_byte.ensures.cause.later;
    }

pub byte_of-requires-clause-number : goal.byte_of-requires-clause-number
byte_of-requires-clause-number g c =
    on_way_number c.args.level c.args.number c.args.byte (shown_word (drafted c.args.draft.now)) (shown_word (drafted c.loop-at.draft)) c.loop-at.at c.loop-at.child c.loop-at.above
    c.requires.partition (omega arith) (omega arith) c.loop-at.invariant.way

pub byte_of-requires-clause-there : goal.byte_of-requires-clause-there
byte_of-requires-clause-there g c =
    there_now (words_under c.args.draft.now) (words_under c.loop-at.draft) c.args.level c.args.number c.args.byte c.loop-at.at c.loop-at.child c.loop-at.above
    (shown_word (drafted c.args.draft.now)) (shown_word (drafted c.loop-at.draft)) c.requires.there c.loop-at.invariant.drafts.same c.loop-at.invariant.way (omega arith) (omega arith)

pub returns-then-byte_of-above-clause-headers : goal.returns-then-byte_of-above-clause-headers
returns-then-byte_of-above-clause-headers g c =
    stays c.args.level c.args.number c.args.byte (shown_word (drafted c.args.draft.now)) (shown_word (drafted c.loop-at.draft)) c.loop-at.at c.loop-at.child c.loop-at.above c.byte_of.result
    c.loop-at.invariant.way (omega arith) (omega arith) c.byte_of.ensures c.if-byte_of-above.true

pub returns-then-byte_of-above-clause-bytes : goal.returns-then-byte_of-above-clause-bytes
returns-then-byte_of-above-clause-bytes g c =
    bytes_stay (drafted c.args.draft.now) (drafted c.loop-at.draft) c.args.level c.args.number c.requires.partition.level
    (λ a aligned off. c.loop-at.invariant.way.others a aligned (λ e lt. off e (omega arith)))

pub set_byte-requires-in-loop-at-clause-number : goal.set_byte-requires-in-loop-at-clause-number
set_byte-requires-in-loop-at-clause-number g c =
    on_way_number c.args.level c.args.number c.args.byte (shown_word (drafted c.args.draft.now)) (shown_word (drafted c.loop-at.draft)) c.loop-at.at c.loop-at.child c.loop-at.above
    c.requires.partition (omega arith) (omega arith) c.loop-at.invariant.way

pub set_byte-requires-in-loop-at-clause-there : goal.set_byte-requires-in-loop-at-clause-there
set_byte-requires-in-loop-at-clause-there g c =
    there_now (words_under c.args.draft.now) (words_under c.loop-at.draft) c.args.level c.args.number c.args.byte c.loop-at.at c.loop-at.child c.loop-at.above
    (shown_word (drafted c.args.draft.now)) (shown_word (drafted c.loop-at.draft)) c.requires.there c.loop-at.invariant.drafts.same c.loop-at.invariant.way (omega arith) (omega arith)

pub returns-in_err-above-2-clause-drafts : goal.returns-in_err-above-2-clause-drafts
returns-in_err-above-2-clause-drafts g c = drafts_then c.loop-at.invariant.drafts c.set_byte-in-loop-at.ensures.drafts

pub loop-at-preserved : goal.loop-at-preserved
loop-at-preserved g c =
    let before = shown_word (drafted c.args.draft.now) in
    let now = shown_word (drafted c.loop-at.draft) in
    let after = shown_word (drafted c.set_byte-in-loop-at.new.draft) in
    let e = c.in_ok-above-2.ensures in
    let so_far = c.loop-at.invariant in
    record {
      way = on_way_more c.args.level c.args.number c.args.byte before now after c.loop-at.at c.loop-at.child c.loop-at.above c.in_ok-above-2.above
          so_far.way (omega arith) (omega arith) e.written e.up e.others;
      maps = e.maps;
      cells = λ d y le. e.cells d y le ∙ so_far.cells d y le;
      pairs = adds_header (words_under c.args.draft.now) (words_under c.loop-at.draft) (nth c.args.level c.args.number) (pairs_of c.args.draft.now) (pairs_of c.loop-at.draft) (pairs_of c.set_byte-in-loop-at.new.draft)
          _ e.added.0 so_far.drafts.same
          (on_path_now c.args.level c.args.number c.args.byte c.loop-at.at c.loop-at.child c.loop-at.above before now so_far.way (omega arith) (omega arith))
          so_far.pairs e.added.1;
      some = omega (arith, e.count, so_far.some);
      count = omega (arith, e.count, so_far.count);
      drafts = drafts_then so_far.drafts c.set_byte-in-loop-at.ensures.drafts;
      faults = omega (arith, so_far.faults, c.set_byte-in-loop-at.ensures.cause.later);
    }

pub returns-clause-headers : goal.returns-clause-headers
returns-clause-headers g c =
    on_way_end c.args.level c.args.number c.args.byte (shown_word (drafted c.args.draft.now)) (shown_word (drafted c.loop-at.draft)) c.loop-at.at c.loop-at.child c.loop-at.above
    c.requires.partition.level (omega arith) (omega arith) c.loop-at.invariant.way

pub returns-clause-bytes : goal.returns-clause-bytes
returns-clause-bytes g c =
    bytes_stay (drafted c.args.draft.now) (drafted c.loop-at.draft) c.args.level c.args.number c.requires.partition.level
    (λ a aligned off. c.loop-at.invariant.way.others a aligned (λ e lt. off e (omega arith)))
