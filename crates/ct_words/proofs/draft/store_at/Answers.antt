use Rattle.std.proofs.Common.{ap, ◌∙◌, ◌∷◌}
use Rattle.ct_base.specs.Words.{place_at}
use Rattle.ct_record.specs.Seen.{pairs_of, words_under}
use Rattle.ct_words.proofs.Placed.{Adds, adds_written, adds_others, adds_cells, adds_maps}
use Rattle.ct_words.proofs.draft.store_at.Given.{Over}
use Rattle.ct_words.proofs.draft.store_at.Goals as goal

-- the pair that was added
added : (g : Over) (c : goal.In_ok-add g) → Adds (words_under c.args.draft.now) (words_under c.add.new.self) (pairs_of c.args.draft.now) (pairs_of c.add.new.self) c.args.address c.args.value
added g c =
    record {
      same = c.add.ensures.drafts.same;
      is = c.in_ok-add.ensures.added
          ∙ ap (λ w. record { word = w; value = c.args.value } ∷ pairs_of c.args.draft.now) (c.place_of-place.ensures.value ∙ ap (λ d. place_at (g.D.Pm.words d) c.args.address) c.dev.ensures);
      maps = c.requires.maps;
      high = c.requires.high;
      there = c.requires.there;
    }

pub returns-clause-written : goal.returns-clause-written
returns-clause-written g c = adds_written (added g c)

pub returns-clause-others : goal.returns-clause-others
returns-clause-others g c = adds_others (added g c)

pub returns-clause-cells : goal.returns-clause-cells
returns-clause-cells g c = adds_cells (added g c)

pub returns-clause-maps : goal.returns-clause-maps
returns-clause-maps g c = adds_maps (added g c)
