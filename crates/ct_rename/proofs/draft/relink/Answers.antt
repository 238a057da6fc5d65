use Rattle.std.proofs.Common.{◌≡◌, ℕ, ◌+◌, ◌/◌, ◌%◌, ◌<◌, List, ◌++◌, length, refl, sym, ap, ◌∙◌, subst, inl, inr, arith}
use Rattle.ct_base.specs.Rules.{HasRoom}
use Rattle.ct_base.specs.Settled.{Named, Pair, with_pairs}
use Rattle.ct_base.specs.Words.{Rewrites, pairs_to, place_at}
use Rattle.ct_commit.proofs.Pages.{base_whole}
use Rattle.ct_dir.proofs.Held.{room_there, slot_high, used_there}
use Rattle.ct_dir.proofs.Texts.{length-slot_words}
use Rattle.ct_dir.specs.Packed.{empty_words, slot_words}
use Rattle.ct_pm.specs.Device.{IsIn}
use Rattle.ct_record.specs.Seen.{drafted, pairs_of, words_under}
use Rattle.ct_record.proofs.Chain.{drafts_then}
use Rattle.ct_record.proofs.Ended.{ok_then}
use Rattle.ct_remove.proofs.Drafting.{cells_on, named_to, place_on, tables_on}
use Rattle.ct_remove.proofs.Erasing.{empty_length}
use Rattle.ct_rename.specs.Moves.{Relinks}
use Rattle.ct_rename.proofs.Pairing.{added_rewrites, rewrites_over}
use Rattle.ct_words.specs.Drafted.{PutFirst}
use Rattle.ct_rename.proofs.draft.relink.Given.{Over}
use Rattle.ct_rename.proofs.draft.relink.Goals as goal

pub set-requires-clause-tables : goal.set-requires-clause-tables
set-requires-clause-tables g c = tables_on c.clear.ensures.drafts c.requires.tables

pub set-requires-clause-there : goal.set-requires-clause-there
set-requires-clause-there g c = λ z. c.requires.there (sym (cells_on c.clear.ensures.drafts 4 _) ∙ z)

pub returns-in_err-set-clause-drafts : goal.returns-in_err-set-clause-drafts
returns-in_err-set-clause-drafts g c = drafts_then c.clear.ensures.drafts c.set.ensures.drafts

module _ (g : Over) (c : goal.In_ok-set g) where
  room : HasRoom c.args.from
  room = room_there c.requires.placed (omega (arith, c.requires.used.below))

  from_whole : (c.args.from.base + c.args.offset) % 256 ≡ 0
  from_whole = omega (arith, base_whole room, c.requires.used.aligned)

  to_whole : (c.args.to.base + c.args.at) % 256 ≡ 0
  to_whole = omega (arith, base_whole c.requires.to_room, c.requires.aligned)

  cleared : Rewrites (drafted c.args.draft.now) (drafted c.clear.new.draft) (c.args.from.base + c.args.offset) empty_words
  cleared = added_rewrites {qs = pairs_of c.clear.new.draft} (record {
    same = c.clear.ensures.drafts.same;
    is = ap (λ ps. with_pairs ps (words_under c.clear.new.draft)) (c.in_ok-clear.ensures.added ∙ ap (λ n. pairs_to (place_at (words_under c.args.draft.now) (c.args.from.base + c.args.offset)) empty_words n ++ pairs_of c.args.draft.now) (sym empty_length));
    aligned = omega (arith, from_whole);
    inside = omega (arith, from_whole, empty_length);
    high = omega (arith, slot_high c.args.offset room (omega (arith, c.requires.used.below, room.size)));
    there = used_there (words_under c.args.draft.now) c.args.from c.args.offset c.requires.tables (g.met.D.Pm.words_fit c.args.draft.now.dev) c.requires.placed c.requires.used;
    tables = c.requires.after;
    page = c.requires.from_page;
  })

  filled : Rewrites (drafted c.clear.new.draft) (drafted c.set.new.draft) (c.args.to.base + c.args.at) (slot_words c.args.number c.args.name.now)
  filled =
      let q = (c.args.to.base + c.args.at) / 4096 in
      let words = slot_words c.args.number c.args.name.now in
      let long = length-slot_words c.args.number c.args.name.now in
      added_rewrites {qs = pairs_of c.set.new.draft} (record {
        same = c.set.ensures.drafts.same;
        is = ap (λ ps. with_pairs ps (words_under c.set.new.draft)) (c.in_ok-set.ensures.added ∙ ap (λ n. pairs_to (place_at (words_under c.clear.new.draft) (c.args.to.base + c.args.at)) words n ++ pairs_of c.clear.new.draft) (sym long));
        aligned = omega (arith, to_whole);
        inside = omega (arith, to_whole, long);
        high = omega (arith, slot_high (c.args.at + 255) c.requires.to_room (omega (arith, c.requires.inside)));
        there = λ z. c.requires.there (sym (cells_on c.clear.ensures.drafts 4 q) ∙ z);
        tables = cleared.tables;
        page = cleared.cells 4 q (omega arith) ∙ c.requires.to_page ∙ sym (cells_on c.clear.ensures.drafts 4 q);
      })

pub returns-clause-links : goal.returns-clause-links
returns-clause-links g c = record { middle = drafted c.clear.new.draft; clear = cleared g c; slot = filled g c }

pub returns-clause-named : goal.returns-clause-named
returns-clause-named g c word named =
    elim (named_to _ (slot_words c.args.number c.args.name.now) 32 (pairs_of c.clear.new.draft) word (subst (λ ps. Named ps word) c.in_ok-set.ensures.added named)) [
      | inl inside ↦ inl (inr (subst (λ p. IsIn p 32 word) (place_on c.clear.ensures.drafts (c.args.to.base + c.args.at)) inside))
      | inr before ↦ elim (named_to _ empty_words 32 (pairs_of c.args.draft.now) word (subst (λ ps. Named ps word) c.in_ok-clear.ensures.added before)) [
        | inl inside ↦ inl (inl inside)
        | inr first ↦ inr first
      ]
    ]

pub returns-clause-bytes : goal.returns-clause-bytes
returns-clause-bytes g c = λ k. let h = c.type_inv.name k in omega arith

pub returns-clause-drafts : goal.returns-clause-drafts
returns-clause-drafts g c = drafts_then c.clear.ensures.drafts c.set.ensures.drafts

-- ---- the slot of the entry itself

module _ (g : Over) (c : goal.After-set_changed g) where
  abbrev at : ℕ
  at = c.args.to.base + c.args.at

  abbrev was : List ℕ
  was = words_under c.args.draft.now

  abbrev first : List Pair
  first = pairs_of c.args.draft.now

  abbrev values : List ℕ
  values = slot_words c.args.number c.args.name.now

  -- what the pairs that were added do
  abbrev Put : Type 0
  Put = PutFirst (place_at was at) values 32 was first (pairs_of c.set_changed.new.draft)

  long : length values ≡ 32
  long = length-slot_words c.args.number c.args.name.now

  whole : at % 256 ≡ 0
  whole = omega (arith, base_whole c.requires.to_room, c.requires.aligned)

  high : at < 281474976710656
  high = omega (arith, slot_high (c.args.at + 255) c.requires.to_room (omega (arith, c.requires.inside)))

  -- the words with the slot emptied
  abbrev emptied : List Pair
  emptied = pairs_to (place_at was at) empty_words (length empty_words) ++ first

  empty : Rewrites (drafted c.args.draft.now) (with_pairs emptied was) at empty_words
  empty = added_rewrites {qs = emptied} (record {
    same = record { others = λ w out. refl; size = refl };
    is = refl;
    aligned = omega (arith, whole);
    inside = omega (arith, whole, empty_length);
    high = high;
    there = c.requires.there;
    tables = c.requires.after;
    page = c.requires.to_page;
  })

  renamed : Put → Rewrites (drafted c.args.draft.now) (drafted c.set_changed.new.draft) at values
  renamed puts =
      let now = words_under c.set_changed.new.draft in
      added_rewrites {qs = pairs_of c.set_changed.new.draft} (record {
        same = c.set_changed.ensures.drafts.same;
        is = puts.does now c.set_changed.ensures.drafts.same ∙ ap (λ n. with_pairs (pairs_to (place_at was at) values n ++ first) now) (sym long);
        aligned = omega (arith, whole);
        inside = omega (arith, whole, long);
        high = high;
        there = c.requires.there;
        tables = c.requires.after;
        page = c.requires.to_page;
      })

  relinked : Put → Relinks (drafted c.args.draft.now) (drafted c.set_changed.new.draft) (c.args.from.base + c.args.offset) at c.args.number c.args.name.now
  relinked puts = record {
    middle = with_pairs emptied was;
    clear = subst (λ a. Rewrites (drafted c.args.draft.now) (with_pairs emptied was) a empty_words) (sym c.if-from-offset.true) empty;
    slot = rewrites_over empty (renamed puts) (empty_length ∙ sym long);
  }

pub returns-then-from-offset-clause-links : goal.returns-then-from-offset-clause-links
returns-then-from-offset-clause-links g c = ok_then (Put g c) c.set_changed.result (relinked g c) c.set_changed.ensures.puts

pub returns-then-from-offset-clause-named : goal.returns-then-from-offset-clause-named
returns-then-from-offset-clause-named g c =
    ok_then (Put g c) c.set_changed.result (λ puts word named. elim (puts.names word named) [ inl inside ↦ inl (inr inside) | inr before ↦ inr before ]) c.set_changed.ensures.puts

pub returns-then-from-offset-clause-bytes : goal.returns-then-from-offset-clause-bytes
returns-then-from-offset-clause-bytes g c = ok_then (Put g c) c.set_changed.result (λ puts k. let h = c.type_inv.name k in omega arith) c.set_changed.ensures.puts
