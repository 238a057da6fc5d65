use Rattle.std.proofs.Common.{ap, subst, ◌∙◌, length}
use Rattle.ct_base.specs.Words.{place_at}
use Rattle.ct_record.specs.Seen.{pairs_of, words_under}
use Rattle.ct_words.specs.Drafted.{PutFirst}
use Rattle.ct_words.proofs.Runs.{Puts, puts_rewrites, puts_maps}
use Rattle.ct_words.proofs.run.put_changed.Given.{Over}
use Rattle.ct_words.proofs.run.put_changed.Goals as goal

-- what the pairs that were added do
first : (g : Over) (c : goal.In_ok-add_changed g) →
    PutFirst (place_at (words_under c.args.draft.now) c.args.address) c.args.values.now (length c.args.values.now) (words_under c.args.draft.now) (pairs_of c.args.draft.now) (pairs_of c.add_changed.new.draft)
first g c =
    subst (λ p. PutFirst p c.args.values.now (length c.args.values.now) (words_under c.args.draft.now) (pairs_of c.args.draft.now) (pairs_of c.add_changed.new.draft))
    (c.place_of-place.ensures.value ∙ ap (λ d. place_at (g.D.Pm.words d) c.args.address) c.dev.ensures) c.in_ok-add_changed.ensures.puts

put : (g : Over) (c : goal.In_ok-add_changed g) → Puts (words_under c.args.draft.now) (words_under c.add_changed.new.draft) (pairs_of c.args.draft.now) (pairs_of c.add_changed.new.draft) c.args.address c.args.values.now
put g c = record {
  same = c.add_changed.ensures.drafts.same;
  is = (first g c).does (words_under c.add_changed.new.draft) c.add_changed.ensures.drafts.same;
  aligned = c.requires.aligned;
  inside = c.requires.inside;
  high = c.requires.high;
  there = c.requires.there;
}

pub returns-clause-puts : goal.returns-clause-puts
returns-clause-puts g c = first g c

pub returns-clause-rewrites : goal.returns-clause-rewrites
returns-clause-rewrites g c = puts_rewrites (put g c)

pub returns-clause-maps : goal.returns-clause-maps
returns-clause-maps g c = puts_maps (put g c)
