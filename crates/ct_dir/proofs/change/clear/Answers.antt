use Rattle.std.proofs.Common.{subst, sym, arith}
use Rattle.ct_dir.proofs.Held.{room_there, slot_high, slot_root, used_there}
use Rattle.ct_record.specs.Seen.{drafted, words_under}
use Rattle.ct_words.specs.Drafted.{MapsAlike}
use Rattle.ct_dir.specs.Packed.{empty_words}
use Rattle.ct_dir.proofs.change.clear.Goals as goal

pub put_words-requires-clause-high : goal.put_words-requires-clause-high
put_words-requires-clause-high g c =
    let room = room_there c.requires.placed (omega (arith, c.requires.used.below)) in
    slot_high c.args.offset room (omega (arith, room.size, c.requires.used.below))

pub put_words-requires-clause-there : goal.put_words-requires-clause-there
put_words-requires-clause-there g c =
    used_there (words_under c.args.draft.now) c.args.dir c.args.offset c.requires.tables (g.met.D.Pm.words_fit c.args.draft.now.dev) c.requires.placed c.requires.used

pub returns-clause-added : goal.returns-clause-added
unfolding empty_words
returns-clause-added g c = c.in_ok-put_words.ensures.added

pub returns-clause-rewrites : goal.returns-clause-rewrites
unfolding empty_words
returns-clause-rewrites g c maps =
    let room = room_there c.requires.placed (omega (arith, c.requires.used.below)) in
    let at = slot_root c.args.offset room (omega (arith, room.size, c.requires.used.below)) in
    c.in_ok-put_words.ensures.rewrites (subst (λ s. MapsAlike s (words_under c.args.draft.now) (drafted c.args.draft.now)) (sym at) maps)

pub returns-clause-maps : goal.returns-clause-maps
returns-clause-maps g c maps =
    let room = room_there c.requires.placed (omega (arith, c.requires.used.below)) in
    let at = slot_root c.args.offset room (omega (arith, room.size, c.requires.used.below)) in
    c.in_ok-put_words.ensures.maps (subst (λ s. MapsAlike s (words_under c.args.draft.now) (drafted c.args.draft.now)) (sym at) maps)
