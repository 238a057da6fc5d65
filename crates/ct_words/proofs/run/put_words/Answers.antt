use Rattle.std.proofs.Common.{ap, ◌∙◌, ◌++◌, length}
use Rattle.ct_base.specs.Settled.{with_pairs}
use Rattle.ct_base.specs.Words.{pairs_to, place_at}
use Rattle.ct_record.specs.Seen.{pairs_of, words_under}
use Rattle.ct_words.proofs.Runs.{Puts, puts_rewrites, puts_maps}
use Rattle.ct_words.proofs.run.put_words.Given.{Over}
use Rattle.ct_words.proofs.run.put_words.Goals as goal

-- the pairs that were added
put : (g : Over) (c : goal.In_ok-add_words g) → Puts (words_under c.args.draft.now) (words_under c.add_words.new.draft) (pairs_of c.args.draft.now) (pairs_of c.add_words.new.draft) c.args.address c.args.values.now
put g c =
    let values = c.args.values.now in
    record {
      same = c.add_words.ensures.drafts.same;
      is = ap (λ ps. with_pairs ps (words_under c.add_words.new.draft)) (c.in_ok-add_words.ensures.added
          ∙ ap (λ p. pairs_to p values (length values) ++ pairs_of c.args.draft.now) (c.place_of-place.ensures.value ∙ ap (λ d. place_at (g.D.Pm.words d) c.args.address) c.dev.ensures));
      aligned = c.requires.aligned;
      inside = c.requires.inside;
      high = c.requires.high;
      there = c.requires.there;
    }

pub returns-clause-rewrites : goal.returns-clause-rewrites
returns-clause-rewrites g c = puts_rewrites (put g c)

pub returns-clause-maps : goal.returns-clause-maps
returns-clause-maps g c = puts_maps (put g c)
