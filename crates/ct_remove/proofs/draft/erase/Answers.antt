use Rattle.std.proofs.Common.{◌≡◌, ℕ, ◌+◌, ◌*◌, List, sym, ap, ◌∙◌, subst, inl, inr}
use Rattle.ct_base.specs.Settled.{Named, Pair, with_pairs}
use Rattle.ct_base.specs.Words.{Rewrites, place_at}
use Rattle.ct_dir.specs.Packed.{empty_words}
use Rattle.ct_inode.proofs.Loaded.{alike_start}
use Rattle.ct_inode.specs.Drafted.{inode_words}
use Rattle.ct_pm.specs.Device.{IsIn}
use Rattle.ct_record.specs.Seen.{drafted, pairs_of, words_under}
use Rattle.ct_record.proofs.Chain.{drafts_then}
use Rattle.ct_words.specs.Drafted.{MapsAlike}
use Rattle.ct_remove.specs.Erased.{no_inode}
use Rattle.ct_remove.proofs.Drafting.{cells_on, named_to, place_on, tables_on}
use Rattle.ct_remove.proofs.draft.erase.Given.{Over}
use Rattle.ct_remove.proofs.draft.erase.Goals as goal

pub put-requires-clause-tables : goal.put-requires-clause-tables
put-requires-clause-tables g c = tables_on c.clear.ensures.drafts c.requires.tables

pub put-requires-clause-there : goal.put-requires-clause-there
put-requires-clause-there g c = λ z. c.requires.there (sym (cells_on c.clear.ensures.drafts 4 _) ∙ z)

pub returns-in_err-put-clause-drafts : goal.returns-in_err-put-clause-drafts
returns-in_err-put-clause-drafts g c = drafts_then c.clear.ensures.drafts c.put.ensures.drafts

module _ (g : Over) (c : goal.In_ok-put g) where
  start : (slot : ℕ) → MapsAlike slot (words_under c.args.draft.now) (drafted c.args.draft.now)
  start slot = alike_start slot (words_under c.args.draft.now) (pairs_of c.args.draft.now) c.requires.begun c.requires.tables

  cleared_maps : (slot : ℕ) → MapsAlike slot (words_under c.clear.new.draft) (drafted c.clear.new.draft)
  cleared_maps slot = c.in_ok-clear.ensures.maps (start _) slot (start slot)

  -- the words before any pair
  begun : drafted c.args.draft.now ≡ words_under c.args.draft.now
  begun = ap (λ (ps : List Pair). with_pairs ps (words_under c.args.draft.now)) c.requires.begun

  slot_named : (word : ℕ) → Named (pairs_of c.clear.new.draft) word → IsIn (place_at (words_under c.args.draft.now) (c.args.dir.base + c.args.offset)) 32 word
  slot_named word named =
      elim (named_to _ empty_words 32 (pairs_of c.args.draft.now) word (subst (λ ps. Named ps word) c.in_ok-clear.ensures.added named)) [
        | inl inside ↦ inside
        | inr before ↦ absurd (subst (λ ps. Named ps word) c.requires.begun before)
      ]

pub returns-clause-drafts : goal.returns-clause-drafts
returns-clause-drafts g c = drafts_then c.clear.ensures.drafts c.put.ensures.drafts

pub returns-clause-maps : goal.returns-clause-maps
returns-clause-maps g c slot = c.in_ok-put.ensures.maps (cleared_maps g c 0) slot (cleared_maps g c slot)

pub returns-clause-erases : goal.returns-clause-erases
returns-clause-erases g c = record {
  middle = drafted c.clear.new.draft;
  slot = subst (λ (img : List ℕ). Rewrites img (drafted c.clear.new.draft) (c.args.dir.base + c.args.offset) empty_words) (begun g c) (c.in_ok-clear.ensures.rewrites (start g c _));
  object = c.in_ok-put.ensures.rewrites (cleared_maps g c 0);
}

pub returns-clause-named : goal.returns-clause-named
returns-clause-named g c word named =
    elim (named_to _ (inode_words no_inode) 8 (pairs_of c.clear.new.draft) word (subst (λ ps. Named ps word) c.in_ok-put.ensures.added named)) [
      | inl inside ↦ inr (subst (λ p. IsIn p 8 word) (place_on c.clear.ensures.drafts (64 * c.args.number)) inside)
      | inr before ↦ inl (slot_named g c word before)
    ]
