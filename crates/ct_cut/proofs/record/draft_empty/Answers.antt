use Rattle.std.proofs.Common.{◌≡◌, ◌+◌, ◌*◌, ◌/◌, List, [], ◌∷◌, refl, ap, arith, inl, inr}
use Rattle.ct_base.specs.Settled.{Pair, with_pairs}
use Rattle.ct_image.proofs.Beside.{beside_tables}
use Rattle.ct_record.specs.Seen.{pairs_of, words_under}
use Rattle.ct_record.proofs.Chain.{drafts_then}
use Rattle.ct_cut.proofs.Emptying.{can_beside, emptied_by, extent_bare, extent_leaves, no_pairs, view_beside}
use Rattle.ct_write.proofs.Settling.{beside_of}
use Rattle.ct_write.proofs.Sizing.{bare_back}
use Rattle.ct_cut.proofs.record.draft_empty.Goals as goal

pub give_up-requires-clause-tables : goal.give_up-requires-clause-tables
give_up-requires-clause-tables g c = beside_tables (beside_of c.put_words.ensures.drafts) c.requires.tables

pub give_up-requires-clause-can : goal.give_up-requires-clause-can
give_up-requires-clause-can g c = can_beside c.put_words.ensures.drafts.same c.args.inode c.requires.can

pub give_up-requires-clause-maps : goal.give_up-requires-clause-maps
give_up-requires-clause-maps g c =
    c.in_ok-put_words.ensures.maps (no_pairs (pairs_of c.args.draft.now) ((c.get.result + 8) / 549755813888) c.requires.none c.requires.tables) 1 (no_pairs (pairs_of c.args.draft.now) 1 c.requires.none c.requires.tables)

pub give_up-requires-clause-leave : goal.give_up-requires-clause-leave
give_up-requires-clause-leave g c =
    let at : c.get.result + 8 ≡ 64 * c.args.inode + 8 = omega (arith, c.get.ensures.value, c.place.ensures) in
    extent_leaves (0 ∷ 0 ∷ 15 ∷ []) c.requires.tables c.requires.to c.requires.there at refl c.requires.none c.in_ok-put_words.ensures.added c.put_words.ensures.drafts.same

pub returns-in_err-give_up-clause-drafts : goal.returns-in_err-give_up-clause-drafts
returns-in_err-give_up-clause-drafts g c = drafts_then c.put_words.ensures.drafts c.give_up.ensures.drafts

pub returns-clause-emptied : goal.returns-clause-emptied
returns-clause-emptied g c =
    let at : c.get.result + 8 ≡ 64 * c.args.inode + 8 = omega (arith, c.get.ensures.value, c.place.ensures) in
    emptied_by (words_under c.put_words.new.draft) (0 ∷ 0 ∷ 15 ∷ []) (ap (λ (l : List Pair). with_pairs l (words_under c.args.draft.now)) c.requires.none) at refl (view_beside c.put_words.ensures.drafts.same)
    (c.in_ok-put_words.ensures.rewrites (no_pairs (pairs_of c.args.draft.now) ((c.get.result + 8) / 549755813888) c.requires.none c.requires.tables)) c.in_ok-give_up.ensures.gives_up

pub returns-clause-bare : goal.returns-clause-bare
returns-clause-bare g c w named =
    let at : c.get.result + 8 ≡ 64 * c.args.inode + 8 = omega (arith, c.get.ensures.value, c.place.ensures) in
    elim (c.in_ok-give_up.ensures.bare w named) [
      | inl before ↦ extent_bare (0 ∷ 0 ∷ 15 ∷ []) c.requires.tables c.requires.to c.requires.there at refl c.requires.none c.in_ok-put_words.ensures.added c.put_words.ensures.drafts.same w before
      | inr here ↦ bare_back (beside_of c.put_words.ensures.drafts) w here
    ]

pub returns-clause-drafts : goal.returns-clause-drafts
returns-clause-drafts g c = drafts_then c.put_words.ensures.drafts c.give_up.ensures.drafts
