use Rattle.std.proofs.Common.{◌≤◌, ◌+◌, ◌∙◌, inl, inr, arith}
use Rattle.std.proofs.lemmas.Bool.{cases_lt}
use Rattle.ct_pm.proofs.Made.{makes_weaker}
use Rattle.ct_record.specs.Record.{IsTouched, StaysInRecord, place_of}
use Rattle.ct_record.proofs.Settles.{same_sym, same_wider}
use Rattle.ct_record.proofs.Moments.{images_kept}
use Rattle.ct_record.proofs.Drafts.{draft_settles, draft_shut, same_pages, same_two, settles_touched, shut_touched, targets_kept, targets_more, touched_in_line, touched_more, touched_record}
use Rattle.ct_record.proofs.draft.Draft.add.Goals as goal

pub returns-in_err-put_next-clause-drafts : goal.returns-in_err-put_next-clause-drafts
returns-in_err-put_next-clause-drafts g c =
    let draft = c.args.self.now in
    let was = g.D.Pm.words draft.dev in
    let new = g.D.Pm.words c.put_next.new.dev in
    let end = c.end_with-self.result in
    let high : end ≤ 16896 = c.end_with-self.ensures.high draft.high in
    let put = c.put_next.ensures in
    let images = touched_more (g.D.Pm.told draft.dev) draft.end end was c.end_with-self.ensures.least draft.images in
    record {
      same = same_wider (λ word is. touched_record end word high is) put.same;
      made = makes_weaker StaysInRecord (λ word value is. touched_record end word high is) put.made;
      moments = draft_settles end was high draft.shut images put.quiet;
      reads = settles_touched end was new high draft.shut (same_sym put.same);
      shut = draft_shut end was draft.shut images put.quiet;
      short = λ is. (omega (arith, is, draft.low, c.end_with-self.ensures.least), touched_in_line end is put.made);
      more = omega arith;
      few = λ is fewer. c.end_with-self.ensures.short fewer ∙ is;
    }

pub returns-clause-drafts : goal.returns-clause-drafts
returns-clause-drafts g c =
    let draft = c.args.self.now in
    let was = g.D.Pm.words draft.dev in
    let new = g.D.Pm.words c.put_next.new.dev in
    let end = c.end_with-self.result in
    let high : end ≤ 16896 = c.end_with-self.ensures.high draft.high in
    let put = c.put_next.ensures in
    let images = touched_more (g.D.Pm.told draft.dev) draft.end end was c.end_with-self.ensures.least draft.images in
    record {
      same = same_wider (λ word is. touched_record end word high is) put.same;
      made = makes_weaker StaysInRecord (λ word value is. touched_record end word high is) put.made;
      moments = draft_settles end was high draft.shut images put.quiet;
      reads = settles_touched end was new high draft.shut (same_sym put.same);
      shut = draft_shut end was draft.shut images put.quiet;
      short = λ is. (omega (arith, is, draft.low, c.end_with-self.ensures.least), touched_in_line end is put.made);
      more = omega arith;
      few = λ is fewer. c.end_with-self.ensures.short (omega (arith, fewer)) ∙ is;
    }

pub returns-in_err-put_next-clause-in_line : goal.returns-in_err-put_next-clause-in_line
returns-in_err-put_next-clause-in_line g c = λ short few.
    touched_in_line c.end_with-self.result (c.end_with-self.ensures.short few ∙ short) c.put_next.ensures.made

pub returns-clause-in_line : goal.returns-clause-in_line
returns-clause-in_line g c = λ short few.
    touched_in_line c.end_with-self.result (c.end_with-self.ensures.short few ∙ short) c.put_next.ensures.made

pub invariant_of-self : goal.invariant_of-self
invariant_of-self g c =
    let draft = c.args.self.now in
    let was = g.D.Pm.words draft.dev in
    let new = g.D.Pm.words c.put_next.new.dev in
    let end = c.end_with-self.result in
    let high : end ≤ 16896 = c.end_with-self.ensures.high draft.high in
    let put = c.put_next.ensures in
    let images = touched_more (g.D.Pm.told draft.dev) draft.end end was c.end_with-self.ensures.least draft.images in
    record {
      images = images_kept (IsTouched end) was new (λ word is. is) put.same images put.quiet;
      shut = shut_touched end was new draft.shut (same_sym put.same);
      pages = same_pages end was new put.same draft.pages;
      targets = targets_kept (place_of draft.count) draft.count was new put.kept (same_two end was new put.same) draft.targets;
      few = draft.few;
      low = omega (arith, draft.low, c.end_with-self.ensures.least);
      high = high;
      short = λ is. draft.short (omega (arith, is, draft.low, c.end_with-self.ensures.least));
    }

pub invariant_of-self-2 : goal.invariant_of-self-2
invariant_of-self-2 g c =
    let draft = c.args.self.now in
    let was = g.D.Pm.words draft.dev in
    let new = g.D.Pm.words c.put_next.new.dev in
    let end = c.end_with-self.result in
    let high : end ≤ 16896 = c.end_with-self.ensures.high draft.high in
    let put = c.put_next.ensures in
    let images = touched_more (g.D.Pm.told draft.dev) draft.end end was c.end_with-self.ensures.least draft.images in
    record {
      images = images_kept (IsTouched end) was new (λ word is. is) put.same images put.quiet;
      shut = shut_touched end was new draft.shut (same_sym put.same);
      pages = same_pages end was new put.same draft.pages;
      targets = targets_more (place_of (draft.count + 1)) (draft.count + 1) (place_of draft.count) draft.count (record { word = c.args.word; value = c.args.value }) was new c.in_ok-put_next.ensures.added (same_two end was new put.same) c.requires.target draft.targets;
      few = omega (arith, c.requires.room);
      low = omega (arith, draft.low, c.end_with-self.ensures.least);
      high = high;
      short = λ is. elim (cases_lt draft.count 3) [ inl few ↦ omega (arith, few) | inr many ↦ absurd (omega (arith, is, c.end_with-self.ensures.long many)) ];
    }
