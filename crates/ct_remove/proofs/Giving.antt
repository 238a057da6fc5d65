-- What giving a partition up asks for, once a slot and an inode are erased in a draft.
use Rattle.std.proofs.Common.{◌≡◌, ◌≢◌, ℕ, ◌+◌, ◌*◌, ◌/◌, ◌%◌, ◌^◌, ◌<◌, List, sym, ap, subst, ◌∙◌, inl, inr, arith}
use Rattle.ct_base.specs.declared.inode.Inode.{Inode}
use Rattle.ct_base.specs.Inode.{inode}
use Rattle.ct_base.specs.Settled.{Named, Pair}
use Rattle.ct_base.specs.View.{view}
use Rattle.ct_base.specs.Walk.{page_at, AreTables}
use Rattle.ct_base.specs.Words.{place_at}
use Rattle.ct_cut.specs.GivenUp.{CanGiveUp}
use Rattle.ct_dir.proofs.Held.{used_there}
use Rattle.ct_dir.specs.Directory.{dir_of}
use Rattle.ct_base.specs.Slots.{IsSlot}
use Rattle.ct_commit.proofs.States.{off_record}
use Rattle.ct_image.proofs.Beside.{Beside, beside_cells}
use Rattle.ct_inode.proofs.Loaded.{kind_none}
use Rattle.ct_pm.specs.Device.{IsIn, SameOff}
use Rattle.ct_record.specs.Record.{InRecord}
use Rattle.ct_record.proofs.Under.{under_beside}
use Rattle.ct_state.proofs.Settle.{alike_off}
use Rattle.ct_swap.specs.Swap.{LeaveTables}
use Rattle.ct_commit.proofs.Pages.{base_whole, word_page}
use Rattle.ct_remove.specs.Asked.{IsAsked}
use Rattle.ct_remove.specs.Erased.{IsErased}
use Rattle.ct_remove.proofs.Asked.{dir_live, dir_object, dir_room, few, object_live}

-- words that differ in the record alone
module _ {old now : List ℕ} (same : SameOff InRecord now old) where
  pub seen_same : view now ≡ view old
  seen_same = (alike_off (off_record same)).bytes

  pub can_on : (number : ℕ) → CanGiveUp old (inode (view old) number) → CanGiveUp now (inode (view now) number)
  can_on number can =
      let b : Beside old now = under_beside old now same in
      subst (λ (f : Inode). CanGiveUp now f) (ap (λ v. inode v number) (sym seen_same)) (record {
        placed = can.placed;
        headers = λ a on z. can.headers a on (sym (beside_cells b 4 (a / 4096)) ∙ z);
        unmapped = λ q in_slot. beside_cells b 4 q ∙ can.unmapped q in_slot;
        tables = λ k d lt. let t = can.tables k d lt in (λ z. t.0 (sym (beside_cells b _ _) ∙ z), λ z. t.1 (sym (beside_cells b _ _) ∙ z));
      })

module _ {old : List ℕ} {dir offset number : ℕ} (a : IsAsked old dir offset number) where
  -- the inode is mapped
  pub object_there : page_at old 4 (64 * number / 4096) ≢ 0
  object_there z =
      let page : 64 * number / 4096 ≡ number / 64 = omega arith in
      (object_live a).used (kind_none old number (omega (arith, few a, (object_live a).number.to)) (ap (page_at old 4) (sym page) ∙ z))

  pub slot_used : IsSlot (dir_of old (inode (view old) dir)) offset
  slot_used = subst (λ f. IsSlot f offset) (dir_object a) a.leaf.slot

  module _ (fits : (w : ℕ) → Rattle.ct_base.specs.Walk.word old w < 2 ^ 64) where
    pub slot_there : page_at old 4 (((inode (view old) dir).base + offset) / 4096) ≢ 0
    slot_there = used_there old (inode (view old) dir) offset a.rest.tables fits (a.rest.sound Rattle.ct_base.specs.Rules.placed dir (dir_live a)) slot_used

    -- erased words are in pages of data
    pub slot_page : (word : ℕ) → IsIn (place_at old ((inode (view old) dir).base + offset)) 32 word → word / 512 ≡ page_at old 4 (((inode (view old) dir).base + offset) / 4096)
    slot_page word at =
        let whole : ((inode (view old) dir).base + offset) % 256 ≡ 0 = omega (arith, base_whole (dir_room a), a.leaf.slot.aligned) in
        word_page old ((inode (view old) dir).base + offset) 32 word (omega (arith, whole)) (omega (arith, whole)) at

    pub object_page : (word : ℕ) → IsIn (place_at old (64 * number)) 8 word → word / 512 ≡ page_at old 4 (64 * number / 4096)
    object_page word at = word_page old (64 * number) 8 word (omega arith) (omega arith) at

    erased_page : (word : ℕ) → IsErased old (inode (view old) dir).base offset number word → (q : ℕ) × (page_at old 4 q ≢ 0) × (word / 512 ≡ page_at old 4 q)
    erased_page word (inl slot) = (((inode (view old) dir).base + offset) / 4096, slot_there, slot_page word slot)
    erased_page word (inr object) = (64 * number / 4096, object_there, object_page word object)

    -- so no pair names a word of a table
    pub erased_leave : {now : List ℕ} (same : SameOff InRecord now old) (pairs : List Pair) → ((word : ℕ) → Named pairs word → IsErased old (inode (view old) dir).base offset number word) → LeaveTables now pairs
    erased_leave {now} same pairs names word named entry =
        let at = erased_page word (names word named) in
        let b : Beside old now = under_beside old now same in
        let cell = beside_cells b entry.depth entry.number in
        let low = entry.few in
        let small = entry.small in
        let page : page_at old entry.depth entry.number ≡ page_at old 4 at.0 = omega (arith, entry.is, small, cell, at.2) in
        let once = a.rest.tables.once entry.depth entry.number 4 at.0 (omega arith) (omega arith) (λ z. entry.there (cell ∙ z)) page in
        omega (arith, once.0, low)
