use Rattle.std.proofs.Common.{◌≡◌, ◌+◌, ◌*◌, ◌/◌, ℕ, [], ◌∷◌, refl, ap, sym, subst, ◌∙◌, arith, inl}
use Rattle.ct_base.specs.Walk.{page_at}
use Rattle.ct_record.specs.Seen.{drafted, pairs_of, words_under}
use Rattle.ct_record.proofs.Chain.{drafts_here}
use Rattle.ct_words.specs.Drafted.{MapsAlike}
use Rattle.ct_write.proofs.Sizing.{sized_by, sized_none, sizes_bare}
use Rattle.ct_write.proofs.record.put_size.Given.{Over}
use Rattle.ct_write.proofs.record.put_size.Goals as goal

pub returns-then-size-was-clause-drafts : goal.returns-then-size-was-clause-drafts
returns-then-size-was-clause-drafts g c = drafts_here c.args.draft.now

pub returns-then-size-was-clause-sized : goal.returns-then-size-was-clause-sized
returns-then-size-was-clause-sized g c = sized_none c.requires.maps.after c.requires.was c.if-size-was.true

pub returns-then-size-was-clause-bare : goal.returns-then-size-was-clause-bare
returns-then-size-was-clause-bare g c w named = inl named

module _ (g : Over) (c : goal.In_ok-put_words g) where
  at : c.get.result + 8 ≡ 64 * c.args.inode + 8
  at = omega (arith, c.get.ensures.value, c.place.ensures)

  slot : (c.get.result + 8) / 549755813888 ≡ 0
  slot = omega (arith, at, c.requires.to)

pub returns-clause-sized : goal.returns-clause-sized
returns-clause-sized g c =
    sized_by (omega (arith, c.ranges.size.fits)) (c.in_ok-put_words.ensures.rewrites (subst (λ (s : ℕ). MapsAlike s (words_under c.args.draft.now) (drafted c.args.draft.now)) (sym (slot g c)) c.requires.maps)) (at g c) refl

pub returns-clause-bare : goal.returns-clause-bare
returns-clause-bare g c =
    sizes_bare (words_under c.args.draft.now) c.args.inode (c.get.result + 8) (c.args.size ∷ []) (pairs_of c.args.draft.now) (pairs_of c.put_words.new.draft) c.requires.tables (at g c) c.requires.to
    (λ none. c.requires.there (ap (page_at (words_under c.args.draft.now) 4) (omega (arith, at g c)) ∙ none)) refl c.in_ok-put_words.ensures.added
