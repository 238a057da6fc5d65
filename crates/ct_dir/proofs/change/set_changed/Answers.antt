use Rattle.std.proofs.Common.{◌+◌, subst, sym, arith}
use Rattle.ct_dir.proofs.Held.{slot_high, slot_root}
use Rattle.ct_record.specs.Seen.{drafted, words_under}
use Rattle.ct_words.specs.Drafted.{MapsAlike}
use Rattle.ct_base.specs.Words.{Rewrites}
use Rattle.ct_dir.proofs.change.set_changed.Goals as goal

pub put_changed-requires-clause-high : goal.put_changed-requires-clause-high
put_changed-requires-clause-high g c = slot_high c.args.offset c.requires.placed (omega (arith, c.requires.inside))

pub returns-clause-rewrites : goal.returns-clause-rewrites
returns-clause-rewrites g c maps =
    let at = slot_root c.args.offset c.requires.placed (omega (arith, c.requires.inside)) in
    let here = subst (λ s. MapsAlike s (words_under c.args.draft.now) (drafted c.args.draft.now)) (sym at) maps in
    subst (λ ws. Rewrites (drafted c.args.draft.now) (drafted c.put_changed.new.draft) (c.args.dir.base + c.args.offset) ws) c.slot_words-words.ensures (c.in_ok-put_changed.ensures.rewrites here)

pub returns-clause-maps : goal.returns-clause-maps
returns-clause-maps g c maps =
    let at = slot_root c.args.offset c.requires.placed (omega (arith, c.requires.inside)) in
    c.in_ok-put_changed.ensures.maps (subst (λ s. MapsAlike s (words_under c.args.draft.now) (drafted c.args.draft.now)) (sym at) maps)
