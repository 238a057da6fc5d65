use Rattle.std.proofs.Common.{◌≡◌, ◌⊎◌, ℕ, zero, suc, ◌+◌, ◌*◌, ◌/◌, ◌%◌, List, ◌++◌, sym, ap, ◌∙◌, subst, inl, inr, arith}
use Rattle.ct_base.specs.Settled.{Named, Pair, with_pairs}
use Rattle.ct_base.specs.Walk.{page_at, AreTables}
use Rattle.ct_base.specs.Words.{Rewrites, pairs_to, place_at}
use Rattle.ct_dir.specs.Packed.{slot_words}
use Rattle.ct_image.proofs.Beside.{beside_cells, beside_tables}
use Rattle.ct_inode.proofs.Loaded.{alike_start}
use Rattle.ct_inode.specs.Drafted.{inode_words}
use Rattle.ct_pm.specs.Device.{IsIn}
use Rattle.ct_record.specs.declared.draft.Draft.{Draft}
use Rattle.ct_record.specs.Seen.{Drafts, drafted, pairs_of, words_under}
use Rattle.ct_record.proofs.Chain.{drafts_then}
use Rattle.ct_record.proofs.Under.{under_beside}
use Rattle.ct_words.specs.Drafted.{MapsAlike}
use Rattle.ct_call.specs.Placed.{empty_inode}
use Rattle.ct_enter.specs.Entry.{IsEntryWord}
use Rattle.ct_enter.proofs.Entering.{spot_ends, spot_few, spot_room, spot_there}
use Rattle.ct_enter.proofs.enter.draft_entry.Given.{Over}
use Rattle.ct_enter.proofs.enter.draft_entry.Goals as goal

-- what is read of the tables under a draft stays while it goes on
cells_on : {D : Type 0} {bound : _} {old new : Draft D bound} → Drafts old new → (d x : ℕ) → page_at (words_under new) d x ≡ page_at (words_under old) d x
cells_on {old = old} {new = new} drafts d x = beside_cells (under_beside (words_under old) (words_under new) drafts.same) d x

tables_on : {D : Type 0} {bound : _} {old new : Draft D bound} → Drafts old new → AreTables (words_under old) → AreTables (words_under new)
tables_on {old = old} {new = new} drafts tables = beside_tables (under_beside (words_under old) (words_under new) drafts.same) tables

place_on : {D : Type 0} {bound : _} {old new : Draft D bound} → Drafts old new → (a : ℕ) → place_at (words_under new) a ≡ place_at (words_under old) a
place_on drafts a = ap (λ p. p * 512 + a % 4096 / 8) (cells_on drafts 4 (a / 4096))

-- a word that pairs name is one of theirs, or was named before
named_to : (place : ℕ) (values : List ℕ) (n : ℕ) (pairs : List Pair) (word : ℕ) → Named (pairs_to place values n ++ pairs) word → IsIn place n word ⊎ Named pairs word
named_to place values zero pairs word named = inr named
named_to place values (suc n) pairs word (inl is) = inl (omega arith, omega arith)
named_to place values (suc n) pairs word (inr later) = elim (named_to place values n pairs word later) [
  | inl inside ↦ inl (inside.0, omega (arith, inside.1))
  | inr before ↦ inr before
]

pub set-requires-clause-placed : goal.set-requires-clause-placed
set-requires-clause-placed g c = spot_room c.requires.rest c.requires.spot

pub overflow_add-offset : goal.overflow_add-offset
overflow_add-offset g c = omega (arith, spot_ends c.requires.rest c.requires.spot)

pub raise_size-requires-clause-tables : goal.raise_size-requires-clause-tables
raise_size-requires-clause-tables g c = tables_on c.set.ensures.drafts c.requires.rest.tables

pub raise_size-requires-clause-there : goal.raise_size-requires-clause-there
raise_size-requires-clause-there g c = λ z. spot_there c.requires.rest c.requires.spot (sym (cells_on c.set.ensures.drafts 4 _) ∙ z)

pub raise_size-requires-clause-counted : goal.raise_size-requires-clause-counted
raise_size-requires-clause-counted g c = spot_few c.requires.rest c.requires.spot

pub returns-in_err-raise_size-clause-drafts : goal.returns-in_err-raise_size-clause-drafts
returns-in_err-raise_size-clause-drafts g c = drafts_then c.set.ensures.drafts c.raise_size.ensures.drafts

pub put-requires-clause-tables : goal.put-requires-clause-tables
put-requires-clause-tables g c = tables_on (drafts_then c.set.ensures.drafts c.raise_size.ensures.drafts) c.requires.rest.tables

pub put-requires-clause-there : goal.put-requires-clause-there
put-requires-clause-there g c = λ z. c.requires.unused.there (sym (cells_on (drafts_then c.set.ensures.drafts c.raise_size.ensures.drafts) 4 _) ∙ z)

pub returns-in_err-put-clause-drafts : goal.returns-in_err-put-clause-drafts
returns-in_err-put-clause-drafts g c = drafts_then (drafts_then c.set.ensures.drafts c.raise_size.ensures.drafts) c.put.ensures.drafts

module _ (g : Over) (c : goal.In_ok-put g) where
  start : (slot : ℕ) → MapsAlike slot (words_under c.args.draft.now) (drafted c.args.draft.now)
  start slot = alike_start slot (words_under c.args.draft.now) (pairs_of c.args.draft.now) c.requires.begun c.requires.rest.tables

  named_maps : (slot : ℕ) → MapsAlike slot (words_under c.set.new.draft) (drafted c.set.new.draft)
  named_maps slot = c.in_ok-set.ensures.maps (start _) slot (start slot)

  sized_maps : (slot : ℕ) → MapsAlike slot (words_under c.raise_size.new.draft) (drafted c.raise_size.new.draft)
  sized_maps slot = c.in_ok-raise_size.ensures.maps (named_maps 0) slot (named_maps slot)

  -- the words before any pair
  begun : drafted c.args.draft.now ≡ words_under c.args.draft.now
  begun = ap (λ (ps : List Pair). with_pairs ps (words_under c.args.draft.now)) c.requires.begun

  slot_named : (word : ℕ) → Named (pairs_of c.set.new.draft) word → IsIn (place_at (words_under c.args.draft.now) (c.args.inode.base + c.args.offset)) 32 word
  slot_named word named =
      elim (named_to _ (slot_words c.args.number c.args.name.now) 32 (pairs_of c.args.draft.now) word (subst (λ ps. Named ps word) c.in_ok-set.ensures.added named)) [
        | inl inside ↦ inside
        | inr before ↦ absurd (subst (λ ps. Named ps word) c.requires.begun before)
      ]

  size_named : (word : ℕ) → Named (pairs_of c.raise_size.new.draft) word → IsEntryWord (words_under c.args.draft.now) c.args.dir c.args.inode c.args.offset c.args.number word
  size_named word named = elim (c.in_ok-raise_size.ensures.named word named) [
    | inl size ↦ inr (inl (subst (λ p. IsIn p 1 word) (place_on c.set.ensures.drafts (64 * c.args.dir + 8)) size))
    | inr before ↦ inl (slot_named word before)
  ]

pub returns-clause-drafts : goal.returns-clause-drafts
returns-clause-drafts g c = drafts_then (drafts_then c.set.ensures.drafts c.raise_size.ensures.drafts) c.put.ensures.drafts

pub returns-clause-writes : goal.returns-clause-writes
returns-clause-writes g c = record {
  named = drafted c.set.new.draft;
  sized = drafted c.raise_size.new.draft;
  slot = subst (λ (img : List ℕ). Rewrites img (drafted c.set.new.draft) (c.args.inode.base + c.args.offset) (slot_words c.args.number c.args.name.now)) (begun g c)
      (c.in_ok-set.ensures.rewrites (start g c _));
  size = c.in_ok-raise_size.ensures.raises (named_maps g c 0);
  object = c.in_ok-put.ensures.rewrites (sized_maps g c 0);
}

pub returns-clause-named : goal.returns-clause-named
returns-clause-named g c word named =
    let on = place_on (drafts_then c.set.ensures.drafts c.raise_size.ensures.drafts) (64 * c.args.number) in
    elim (named_to _ (inode_words (empty_inode c.args.kind)) 8 (pairs_of c.raise_size.new.draft) word (subst (λ ps. Named ps word) c.in_ok-put.ensures.added named)) [
      | inl inside ↦ inr (inr (subst (λ p. IsIn p 8 word) on inside))
      | inr before ↦ size_named g c word before
    ]

pub returns-clause-bytes : goal.returns-clause-bytes
returns-clause-bytes g c = λ k. let h = c.type_inv.name k in omega arith
