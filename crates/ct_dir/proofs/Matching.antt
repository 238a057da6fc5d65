-- Slots and the names that they have.
use Rattle.std.proofs.Common.{◌≡◌, ℕ, ◌+◌, ◌*◌, ◌/◌, ◌%◌, ◌^◌, ◌<◌, ◌≤◌, List, length, get_or, sym, ap, ◌∙◌, subst, inl, inr, arith}
use Rattle.std.proofs.lemmas.Bool.{cases_lt}
use Rattle.ct_base.specs.Inode.{little}
use Rattle.ct_base.specs.Named.{Named}
use Rattle.ct_base.specs.Objects.{Object}
use Rattle.ct_base.specs.Slots.{IsSlot, slot_inode, slot_length, slot_name}
use Rattle.ct_base.specs.Walk.{word}
use Rattle.ct_dir.proofs.Texts.{head_parts, length-bytes_from, text_words, words_text}
use Rattle.ct_base.specs.declared.inode.Inode.{Inode}
use Rattle.ct_dir.proofs.Held.{dir-small}
use Rattle.ct_dir.proofs.Stepping.{Brings}
use Rattle.ct_dir.specs.Directory.{AreEmpty, HaveOther, IsFirst, IsReadable, dir_of}
use Rattle.ct_dir.specs.Reading.{Holds}
use Rattle.ct_dir.specs.Keys.{IsKey, IsSpelled, word_after}
use Rattle.ct_dir.specs.declared.names.Key.{Key}
use Rattle.ct_dir.specs.declared.lookup.Found.{Found}
use Rattle.ct_dir.specs.declared.slot.Slot.{Slot}

module _ {img : List ℕ} {f : Object} {slot : Slot} (h : Holds img f slot) where
  pub head_inode : slot.head % 2 ^ 32 ≡ slot_inode f slot.offset
  head_inode = ap (λ w. w % 4294967296) h.shows.head ∙ (head_parts f slot.offset h.small).0

  pub head_length : slot.head / 2 ^ 32 ≡ slot_length f slot.offset
  head_length = ap (λ w. w / 4294967296) h.shows.head ∙ (head_parts f slot.offset h.small).1

  pub word_is : (k : ℕ) → k < 31 → word_after img slot k ≡ little f.at (slot.offset + 8 + 8 * k) 8
  word_is k lt = ap (word img) (omega arith) ∙ h.shows.words (1 + k) (omega arith) ∙ ap (λ o. little f.at o 8) (omega arith)

  pub name_size : length (slot_name f slot.offset) ≡ slot_length f slot.offset
  name_size = length-bytes_from f.at (slot.offset + 8) (slot_length f slot.offset)

  -- the slot is spelled like the name that it has
  pub named_spelled : {x : List ℕ} {key : Key} → IsKey x key → slot_name f slot.offset ≡ x → IsSpelled img slot key
  named_spelled {x} {key} k is =
      let size : slot_length f slot.offset ≡ length x = sym name_size ∙ ap length is in
      record {
        length = head_length ∙ size ∙ sym k.length;
        words = λ j lt.
            let few : j < 31 = omega (arith, lt, size, k.length, h.text.length) in
            word_is j few ∙ text_words f slot.offset x j h.text is few ∙ ap (λ ws. get_or ws j 0) (sym k.words);
      }

  pub spelled_named : {x : List ℕ} {key : Key} → IsKey x key → length x ≤ 248 → IsSpelled img slot key → slot_name f slot.offset ≡ x
  spelled_named {x} {key} k short s =
      words_text f slot.offset x h.small k.bytes short (sym head_length ∙ s.length ∙ k.length) (λ j lt.
      sym (word_is j (omega (arith, lt, short))) ∙ s.words j (omega (arith, lt, k.length)) ∙ ap (λ ws. get_or ws j 0) k.words)

-- slots that were passed have other names
pub pass_other : {f : Object} {x : List ℕ} (at o : ℕ) → HaveOther f x at → AreEmpty f at o → (slot_name f o ≡ x → ⊥) → o % 256 ≡ 0 → HaveOther f x (o + 256)
pass_other {f} {x} at o before empty other aligned k lt s name = elim (cases_lt k at) [
  | inl low ↦ before k low s name
  | inr ge ↦ elim (cases_lt k o) [
    | inl below ↦ empty k (omega arith) below s
    | inr past ↦ let here : k ≡ o = omega (arith, s.aligned, aligned, lt, past) in other (ap (slot_name f) (sym here) ∙ name)
  ]
]

pub other_before : {f : Object} {x : List ℕ} (at o : ℕ) → HaveOther f x at → AreEmpty f at o → HaveOther f x o
other_before {f} {x} at o before empty k lt s name = elim (cases_lt k at) [
  | inl low ↦ before k low s name
  | inr ge ↦ empty k (omega arith) lt s
]

-- and where all were passed, none has the name
pub none_named : {f : Object} {x : List ℕ} (at : ℕ) → HaveOther f x at → AreEmpty f at f.size → Named f x → ⊥
none_named {f} {x} at before empty n = other_before at f.size before empty n.offset n.slot.below n.slot n.name

-- a slot that the walk met is one in hand
pub met : {img : List ℕ} {dir : Inode} {at after : ℕ} {slot : Slot} → IsReadable img dir → Brings img dir at after slot → Holds img (dir_of img dir) slot
met {img} {dir} {at} {after} {slot} readable b = record { shows = b.shows; used = b.used; text = readable.texts slot.offset b.used; small = dir-small img dir }

pub other_more : {img : List ℕ} {dir : Inode} {x : List ℕ} {key : Key} {at after : ℕ} {slot : Slot} → IsReadable img dir → Brings img dir at after slot → IsKey x key
    → HaveOther (dir_of img dir) x at → (IsSpelled img slot key → ⊥) → HaveOther (dir_of img dir) x after
other_more {img} {dir} {x} {key} {at} {after} {slot} readable b is before other =
    let Q : ℕ → Type 0 = λ o. HaveOther (dir_of img dir) x o in
    subst Q (sym b.to) (pass_other at slot.offset before b.passed (λ name. other (named_spelled (met readable b) is name)) b.used.aligned)

pub first_found : {img : List ℕ} {dir : Inode} {x : List ℕ} {key : Key} {at after : ℕ} {slot : Slot} (found : Found) → IsReadable img dir → Brings img dir at after slot → IsKey x key
    → length x ≤ 248 → HaveOther (dir_of img dir) x at → IsSpelled img slot key → found.offset ≡ slot.offset → found.inode ≡ slot.head % 2 ^ 32 → IsFirst (dir_of img dir) x found
first_found {img} {dir} {x} {key} {at} {after} {slot} found readable b is short before spelled offset inode =
    let f = dir_of img dir in
    let h = met readable b in
    let I : ℕ → Type 0 = λ o. IsSlot f o in
    let O : ℕ → Type 0 = λ o. HaveOther f x o in
    record {
      slot = subst I (sym offset) b.used;
      name = ap (slot_name f) offset ∙ spelled_named h is short spelled;
      inode = ap (slot_inode f) offset ∙ sym (head_inode h) ∙ sym inode;
      first = subst O (sym offset) (other_before at slot.offset before b.passed);
    }
