use Rattle.std.proofs.Common.{◌≡◌, ◌+◌, ◌*◌, ◌/◌, subst, inr, arith}
use Rattle.ct_record.specs.Seen.{drafted, words_under}
use Rattle.ct_record.proofs.Chain.{drafts_here}
use Rattle.ct_words.specs.Drafted.{MapsAlike}
use Rattle.ct_enter.proofs.enter.raise_size.Given.{Over}
use Rattle.ct_enter.proofs.enter.raise_size.Goals as goal

pub returns-then-to-from-clause-drafts : goal.returns-then-to-from-clause-drafts
returns-then-to-from-clause-drafts g c = drafts_here c.args.draft.now

-- root slot 0 has the inodes
alike : (g : Over) (c : goal.In_ok-put_words g) → MapsAlike 0 (words_under c.args.draft.now) (drafted c.args.draft.now)
    → MapsAlike ((64 * c.args.dir + 8) / 549755813888) (words_under c.args.draft.now) (drafted c.args.draft.now)
alike g c maps =
    let slot : 0 ≡ (64 * c.args.dir + 8) / 549755813888 = omega (arith, c.requires.counted) in
    subst (λ s. MapsAlike s (words_under c.args.draft.now) (drafted c.args.draft.now)) slot maps

pub returns-clause-raises : goal.returns-clause-raises
returns-clause-raises g c maps = inr (omega arith, c.in_ok-put_words.ensures.rewrites (alike g c maps))

pub returns-clause-maps : goal.returns-clause-maps
returns-clause-maps g c maps slot m = c.in_ok-put_words.ensures.maps (alike g c maps) slot m
