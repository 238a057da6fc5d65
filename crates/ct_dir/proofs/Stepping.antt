-- A walk over the slots, a step at a time.
use Rattle.std.proofs.Common.{◌≡◌, ◌≢◌, ℕ, ◌+◌, ◌-◌, ◌*◌, ◌/◌, ◌%◌, ◌^◌, ◌<◌, ◌≤◌, List, length, sym, ap, ◌∙◌, subst, inl, inr, Option, Some, None, arith}
use Rattle.std.proofs.lemmas.Bool.{cases_lt}
use Rattle.ct_base.specs.declared.inode.Inode.{Inode}
use Rattle.ct_base.specs.Inode.{little}
use Rattle.ct_base.specs.Slots.{IsSlot}
use Rattle.ct_base.specs.Walk.{word, page_at}
use Rattle.ct_state.proofs.Bytes.{little-zero, little-none}
use Rattle.ct_walk.proofs.Entries.{entries_stand, page_there, some_page-is, some_page-none}
use Rattle.ct_walk.specs.Pages.{some_page}
use Rattle.ct_dir.proofs.Held.{IsLaid, laid, Lies, word_there, slot_inside, absent}
use Rattle.ct_dir.proofs.Texts.{head_parts}
use Rattle.ct_dir.specs.Directory.{AreEmpty, IsReadable, dir_of}
use Rattle.ct_dir.specs.Reading.{Shows, Stands}
use Rattle.ct_dir.specs.declared.slot.Slot.{Slot}
use Rattle.ct_dir.specs.declared.slots.Slots.{Slots}

-- where the walk stands
pub record Meets (img : List ℕ) (dir : Inode) (at : ℕ) : Type 0 where
  pub readable : IsReadable img dir
  pub fits : (w : ℕ) → word img w < 2 ^ 64
  pub aligned : at % 256 ≡ 0
  pub below : at < dir.size

module _ {img : List ℕ} {dir : Inode} {at : ℕ} (m : Meets img dir at) where
  here_laid : IsLaid dir
  here_laid = laid m.readable.placed (omega (arith, m.below))

  whole : dir.size % 256 ≡ 0
  whole = m.readable.placed.slots m.readable.kind

  lies_at : (o : ℕ) → o % 256 ≡ 0 → o < dir.size → Lies img dir o
  lies_at o aligned below = record { tables = m.readable.tables; fits = m.fits; laid = here_laid; below = omega (arith, whole, aligned, below); aligned = aligned }

  -- without a page the slots up to the next page are empty
  pub meets_none : (from : ℕ) → None ≡ some_page (page_at img 4 ((dir.base + at) / 4096)) → AreEmpty (dir_of img dir) from at → AreEmpty (dir_of img dir) from (at + (4096 - at % 4096))
  meets_none from none before o low high s = elim (cases_lt o at) [
    | inl lt ↦ before o low lt s
    | inr ge ↦
        let same : (dir.base + o) / 4096 ≡ (dir.base + at) / 4096 = omega (arith, (here_laid).aligned, m.aligned, s.aligned, high, ge) in
        s.used (absent (lies_at o s.aligned s.below) (ap (page_at img 4) same ∙ some_page-none _ none))
  ]

  pub meets_there : (page : ℕ) → Some page ≡ some_page (page_at img 4 ((dir.base + at) / 4096)) → page * 512 + 512 ≤ length img
  meets_there page some =
      let p = some_page-is page _ some in
      omega (arith, p.0, page_there img 4 ((dir.base + at) / 4096) (entries_stand m.readable.tables) p.1)

  word_of : (page k : ℕ) → Some page ≡ some_page (page_at img 4 ((dir.base + at) / 4096)) → k < 32 → word img (page * 512 + at % 4096 / 8 + k) ≡ little (dir_of img dir).at (at + 8 * k) 8
  word_of page k some lt =
      let p = some_page-is page _ some in
      ap (λ q. word img (q * 512 + at % 4096 / 8 + k)) (sym p.0) ∙ word_there (lies_at at m.aligned m.below) k lt p.1

  head_of : (page head : ℕ) → Some page ≡ some_page (page_at img 4 ((dir.base + at) / 4096)) → head ≡ word img (page * 512 + at % 4096 / 8) → head ≡ little (dir_of img dir).at at 8
  head_of page head some is = is ∙ ap (word img) (omega arith) ∙ word_of page 0 some (omega arith) ∙ ap (λ o. little (dir_of img dir).at o 8) (omega arith)

  pub meets_shows : (page : ℕ) (slot : Slot) → Some page ≡ some_page (page_at img 4 ((dir.base + at) / 4096)) → slot.offset ≡ at → slot.place ≡ page * 512 + at % 4096 / 8 → slot.head ≡ word img slot.place → Shows img (dir_of img dir) slot
  meets_shows page slot some offset place head =
      let p = some_page-is page _ some in
      record {
        inside = omega (arith, place, p.0, slot_inside (lies_at at m.aligned m.below) p.1);
        words = λ k lt. ap (λ w. word img (w + k)) place ∙ word_of page k some lt ∙ ap (λ o. little (dir_of img dir).at (o + 8 * k) 8) (sym offset);
        head = head_of page slot.head some (head ∙ ap (word img) place) ∙ ap (λ o. little (dir_of img dir).at o 8) (sym offset);
      }

  -- a slot is used where its head is not 0
  pub meets_used : (slot : Slot) → Shows img (dir_of img dir) slot → slot.offset ≡ at → slot.head ≢ 0 → IsSlot (dir_of img dir) slot.offset
  meets_used slot shows offset some =
      let f = dir_of img dir in
      record {
        dir = m.readable.kind;
        below = omega (arith, offset, m.below);
        aligned = omega (arith, offset, m.aligned);
        used = λ none. some (shows.head ∙ little-zero f.at slot.offset 8 (λ k lt. little-none f.at slot.offset 256 k none (omega (arith, lt))));
      }

  -- and empty where it is
  pub meets_empty : (slot : Slot) (from : ℕ) → Shows img (dir_of img dir) slot → slot.offset ≡ at → slot.head ≡ 0 → ((k : ℕ) → (dir_of img dir).at k < 256) → AreEmpty (dir_of img dir) from at → AreEmpty (dir_of img dir) from (at + 256)
  meets_empty slot from shows offset none small before o low high s = elim (cases_lt o at) [
    | inl lt ↦ before o low lt s
    | inr ge ↦
        let f = dir_of img dir in
        let here : slot.offset ≡ o = omega (arith, offset, m.aligned, s.aligned, high, ge) in
        let head : little f.at o 8 ≡ 0 = ap (λ k. little f.at k 8) (sym here) ∙ sym shows.head ∙ none in
        let parts = head_parts f o small in
        (m.readable.texts o s).some (omega (arith, head, parts.0))
  ]

-- the walk stands at a slot of the directory
pub meets_here : {img : List ℕ} {dir : Inode} (now : Slots) → IsReadable img dir → ((w : ℕ) → word img w < 2 ^ 64) → Stands img now → now.dir ≡ dir → now.at < now.dir.size → Meets img dir now.at
meets_here now readable fits stands same below = record { readable = readable; fits = fits; aligned = stands.aligned; below = omega (arith, below, ap (λ d. d.size) same) }

pub page_here-is : (img : List ℕ) (dir : Inode) (now : Slots) (page : Option ℕ) → now.dir ≡ dir → page ≡ some_page (page_at img 4 ((now.dir.base + now.at) / 4096)) → page ≡ some_page (page_at img 4 ((dir.base + now.at) / 4096))
page_here-is img dir now page same is = is ∙ ap (λ d. some_page (page_at img 4 ((d.base + now.at) / 4096))) same

-- the page of a slot is that of the one before, within a page
pub page_stays : (img : List ℕ) (dir : Inode) (now : Slots) (page : Option ℕ) (at : ℕ) → IsReadable img dir → now.dir ≡ dir → Stands img now → now.at < now.dir.size
    → page ≡ some_page (page_at img 4 ((now.dir.base + now.at) / 4096)) → at ≡ now.at + 256 → at % 4096 ≢ 0 → page ≡ some_page (page_at img 4 ((now.dir.base + at) / 4096))
page_stays img dir now page at readable same stands below is next within =
    let base : now.dir.base ≡ dir.base = ap (λ d. d.base) same in
    let size : now.dir.size ≡ dir.size = ap (λ d. d.size) same in
    let l = laid readable.placed (omega (arith, below, size)) in
    let there : (now.dir.base + now.at) / 4096 ≡ (now.dir.base + at) / 4096 = omega (arith, base, l.aligned, next, within, stands.aligned) in
    is ∙ ap (λ n. some_page (page_at img 4 n)) there

-- The walk went from an offset to one after a slot that is used, past none other.
pub record Brings (img : List ℕ) (dir : Inode) (at after : ℕ) (slot : Slot) : Type 0 where
  pub used : IsSlot (dir_of img dir) slot.offset
  pub shows : Shows img (dir_of img dir) slot
  pub from : at ≤ slot.offset
  pub to : after ≡ slot.offset + 256
  pub passed : AreEmpty (dir_of img dir) at slot.offset

pub brings : (img : List ℕ) (now dir : Inode) (at after : ℕ) (slot : Slot) → now ≡ dir → IsSlot (dir_of img now) slot.offset → Shows img (dir_of img now) slot
    → (at ≤ slot.offset) × (after ≡ slot.offset + 256) → AreEmpty (dir_of img now) at slot.offset → Brings img dir at after slot
brings img now dir at after slot same used shows on passed =
    let P : Inode → Type 0 = λ d. Brings img d at after slot in
    subst P same (record { used = used; shows = shows; from = on.0; to = on.1; passed = passed })

-- or it came to the end
pub ends : (img : List ℕ) (now dir : Inode) (at : ℕ) → now ≡ dir → AreEmpty (dir_of img now) at now.size → AreEmpty (dir_of img dir) at dir.size
ends img now dir at same empty = let P : Inode → Type 0 = λ d. AreEmpty (dir_of img d) at d.size in subst P same empty

-- a slot that is used is met where it lies, and has a page
pub meets_slot : {img : List ℕ} {dir : Inode} (o : ℕ) → IsReadable img dir → ((w : ℕ) → word img w < 2 ^ 64) → IsSlot (dir_of img dir) o → Meets img dir o
meets_slot o readable fits s = record { readable = readable; fits = fits; aligned = s.aligned; below = s.below }

pub slot_mapped : {img : List ℕ} {dir : Inode} {o : ℕ} → Meets img dir o → IsSlot (dir_of img dir) o → None ≡ some_page (page_at img 4 ((dir.base + o) / 4096)) → ⊥
slot_mapped {img} {dir} {o} m s none = meets_none m o none (λ k low high used. omega arith) o (omega arith) (omega arith) s
