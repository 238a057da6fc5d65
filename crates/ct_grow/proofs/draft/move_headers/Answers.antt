use Rattle.std.proofs.Common.{◌/◌, List, ap, sym, subst, ◌∙◌, inr}
use Rattle.ct_base.specs.Inode.{Partition, part}
use Rattle.ct_base.specs.Settled.{Pair, with_pairs}
use Rattle.ct_image.proofs.Beside.{beside_cells, beside_tables}
use Rattle.ct_level.specs.Any.{partition}
use Rattle.ct_record.specs.Seen.{drafted, pairs_of, words_under}
use Rattle.ct_record.proofs.Chain.{drafts_then}
use Rattle.ct_record.proofs.Under.{under_beside}
use Rattle.ct_header.specs.Drafted.{AreThere}
use Rattle.ct_grow.specs.Drafted.{IsOnPaths, NamePlaces}
use Rattle.ct_grow.proofs.Heads.{header_place, taken_names, headers_join, headers_both}
use Rattle.ct_grow.proofs.Placing.{names_added, names_beside, names_tables, names_maps}
use Rattle.ct_grow.proofs.draft.move_headers.Given.{Over}
use Rattle.ct_grow.proofs.draft.move_headers.Goals as goal

pub returns-then-old-eq-NO_PARTITION-clause-named : goal.returns-then-old-eq-NO_PARTITION-clause-named
returns-then-old-eq-NO_PARTITION-clause-named g c =
    taken_names (words_under c.args.draft.now) c.args.old (record { base = c.args.base; level = c.args.level }) (partition c.part_at.result) (pairs_of c.args.draft.now) (pairs_of c.take.new.draft) c.part_at.ensures c.requires.new c.requires.new_there c.requires.none c.in_ok-take.ensures.pairs

pub returns-then-old-eq-NO_PARTITION-clause-maps : goal.returns-then-old-eq-NO_PARTITION-clause-maps
returns-then-old-eq-NO_PARTITION-clause-maps g c =
    let beside = under_beside (words_under c.args.draft.now) (words_under c.take.new.draft) c.take.ensures.drafts.same in
    names_maps (pairs_of c.take.new.draft) (names_tables (beside_tables beside c.requires.maps.tables) (names_beside beside (taken_names (words_under c.args.draft.now) c.args.old (record { base = c.args.base; level = c.args.level }) (partition c.part_at.result) (pairs_of c.args.draft.now) (pairs_of c.take.new.draft) c.part_at.ensures c.requires.new c.requires.new_there c.requires.none c.in_ok-take.ensures.pairs)))

pub returns-then-old-eq-NO_PARTITION-clause-stand : goal.returns-then-old-eq-NO_PARTITION-clause-stand
returns-then-old-eq-NO_PARTITION-clause-stand g c ps stand free one =
    headers_join (words_under c.args.draft.now) (drafted c.args.draft.now) (drafted c.take.new.draft) c.args.old (record { base = c.args.base; level = c.args.level }) (partition c.part_at.result)
    (ap (λ (l : List Pair). with_pairs l (words_under c.args.draft.now)) c.requires.none) c.part_at.ensures c.if-old-eq-NO_PARTITION.true c.in_ok-take.ensures.stand ps stand free

module _ (g : Over) (c : goal.After-part_of g) where
  own_there : AreThere (words_under c.args.draft.now) (part c.args.old)
  own_there = (c.requires.old c.if-old-eq-NO_PARTITION.false).1

  still : AreThere (words_under c.take.new.draft) (part c.args.old)
  still a on none =
      let beside = under_beside (words_under c.args.draft.now) (words_under c.take.new.draft) c.take.ensures.drafts.same in
      own_there a on (sym (beside_cells beside 4 (a / 4096)) ∙ none)

pub release-requires-clause-there : goal.release-requires-clause-there
release-requires-clause-there g c = subst (λ (q : Partition). AreThere (words_under c.take.new.draft) q) (sym c.part_of.ensures) (still g c)

pub returns-in_err-release-clause-drafts : goal.returns-in_err-release-clause-drafts
returns-in_err-release-clause-drafts g c = drafts_then c.take.ensures.drafts c.release.ensures.drafts

pub returns-clause-stand : goal.returns-clause-stand
returns-clause-stand g c ps stand free one =
    headers_both (words_under c.args.draft.now) (drafted c.args.draft.now) (drafted c.take.new.draft) (drafted c.release.new.draft) c.args.old (record { base = c.args.base; level = c.args.level }) (partition c.part_at.result) (partition c.part_of.result)
    (ap (λ (l : List Pair). with_pairs l (words_under c.args.draft.now)) c.requires.none) c.part_at.ensures c.part_of.ensures c.if-old-eq-NO_PARTITION.false c.in_ok-take.ensures.stand c.in_ok-release.ensures.stand ps stand free one

-- the pairs for both partitions
both : (g : Over) (c : goal.In_ok-release g) → NamePlaces (words_under c.args.draft.now) (IsOnPaths c.args.old (record { base = c.args.base; level = c.args.level })) (pairs_of c.release.new.draft)
both g c =
    let img = words_under c.args.draft.now in
    let mid = words_under c.take.new.draft in
    let p : Partition = record { base = c.args.base; level = c.args.level } in
    let beside = under_beside img mid c.take.ensures.drafts.same in
    let back = under_beside mid img (Rattle.ct_record.proofs.Settles.same_sym c.take.ensures.drafts.same) in
    let own = c.requires.old c.if-old-eq-NO_PARTITION.false in
    let there : AreThere mid (part c.args.old) = λ a on none. own.1 a on (sym (beside_cells beside 4 (a / 4096)) ∙ none) in
    names_beside back (names_added (header_place mid (IsOnPaths c.args.old p) (partition c.part_of.result) (part c.args.old) c.part_of.ensures own.0 there (λ a on. inr (c.if-old-eq-NO_PARTITION.false, on))) c.in_ok-release.ensures.pairs
    (names_beside beside (taken_names (words_under c.args.draft.now) c.args.old (record { base = c.args.base; level = c.args.level }) (partition c.part_at.result) (pairs_of c.args.draft.now) (pairs_of c.take.new.draft) c.part_at.ensures c.requires.new c.requires.new_there c.requires.none c.in_ok-take.ensures.pairs)))

pub returns-clause-named : goal.returns-clause-named
returns-clause-named g c = both g c

pub returns-clause-maps : goal.returns-clause-maps
returns-clause-maps g c =
    let drafts = drafts_then c.take.ensures.drafts c.release.ensures.drafts in
    let beside = under_beside (words_under c.args.draft.now) (words_under c.release.new.draft) drafts.same in
    names_maps (pairs_of c.release.new.draft) (names_tables (beside_tables beside c.requires.maps.tables) (names_beside beside (both g c)))

pub returns-clause-drafts : goal.returns-clause-drafts
returns-clause-drafts g c = drafts_then c.take.ensures.drafts c.release.ensures.drafts
