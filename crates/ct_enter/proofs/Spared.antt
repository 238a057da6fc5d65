-- A new entry spares the pages of live files.
use Rattle.std.proofs.Common.{◌≡◌, ◌≢◌, ℕ, ◌+◌, ◌*◌, ◌/◌, ◌%◌, ◌^◌, ◌<◌, ◌≤◌, List, sym, ap, ◌∙◌, subst, inl, inr, arith}
use Rattle.ct_base.specs.declared.inode.Inode.{Inode}
use Rattle.ct_base.specs.Free.{IsFilePage}
use Rattle.ct_base.specs.Inode.{inode, IsIn}
use Rattle.ct_base.specs.Rules.{apart, Owns, part_of}
use Rattle.ct_base.specs.View.{view, inode_count}
use Rattle.ct_base.specs.Walk.{page_at}
use Rattle.ct_image.proofs.Steps.{walk-cell}
use Rattle.ct_state.proofs.Entry.{owns_back, part-same}
use Rattle.ct_enter.specs.Entry.{IsEntryWord, IsSpot}
use Rattle.ct_commit.specs.Rest.{IsAtRest}
use Rattle.ct_enter.proofs.Entering.{Enters, creates, entry_keeps, kind_stays, spot_few, spot_room}
use Rattle.ct_commit.proofs.Pages.{base_whole, file_cell, high_in, room_of, word_page}

module _ {img : List ℕ} {dir : ℕ} {f : Inode} {offset : ℕ} {name : List ℕ} (rest : IsAtRest img) (s : IsSpot img dir f offset name) where
  -- a page of a live file is no page of the directory, and none of root slot 0
  slot_apart : (page : ℕ) (is : IsFilePage img page) → is.address / 4096 ≢ (f.base + offset) / 4096
  slot_apart page is same =
      let other : is.file ≢ dir = λ e. omega (arith, is.kind, ap (λ j. (inode (view img) j).kind) e, ap (λ (g : Inode). g.kind) s.is, s.kind) in
      let file_base = base_whole (room_of img rest.sound is.owns) in
      let dir_base = base_whole (spot_room rest s) in
      let base = ap (λ (g : Inode). g.base) s.is in
      let width = ap (λ (g : Inode). 8 ^ g.level) s.is in
      elim (rest.sound apart is.file dir is.owns s.owns other) [
        | inl before ↦ omega (arith, before, base, is.inside.to, dir_base, same)
        | inr after ↦ omega (arith, after, base, width, is.inside.from, file_base, same, s.fits)
      ]

  low_apart : (page a : ℕ) (is : IsFilePage img page) → a < 2 ^ 39 → is.address / 4096 ≢ a / 4096
  low_apart page a is low same = omega (arith, (room_of img rest.sound is.owns).part.low, is.inside.from, low, same)

  one_page : (page a : ℕ) (is : IsFilePage img page) → page_at img 4 (a / 4096) ≢ 0 → page ≡ page_at img 4 (a / 4096) → is.address / 4096 ≡ a / 4096
  one_page page a is there same =
      let cell = file_cell img rest.sound is in
      (rest.tables.once 4 (is.address / 4096) 4 (a / 4096) (omega arith) (omega arith) (λ z. there (sym same ∙ sym cell ∙ z)) (cell ∙ same)).1

  pub word_spares : (number word : ℕ) → number ≤ 1048576 → page_at img 4 (64 * number / 4096) ≢ 0 → page_at img 4 (64 * dir / 4096) ≢ 0 → IsEntryWord img dir f offset number word → IsFilePage img (word / 512) → ⊥
  word_spares number word few there dir_there (inl slot) is =
      let whole : (f.base + offset) % 256 ≡ 0 = omega (arith, base_whole (spot_room rest s), s.aligned) in
      slot_apart (word / 512) is (one_page (word / 512) (f.base + offset) is s.there (word_page img (f.base + offset) 32 word (omega (arith, whole)) (omega (arith, whole)) slot))
  word_spares number word few there dir_there (inr (inl size)) is =
      let page : (64 * dir + 8) / 4096 ≡ 64 * dir / 4096 = omega arith in
      low_apart (word / 512) (64 * dir + 8) is (omega (arith, spot_few rest s))
      (one_page (word / 512) (64 * dir + 8) is (λ z. dir_there (ap (page_at img 4) (sym page) ∙ z)) (word_page img (64 * dir + 8) 1 word (omega arith) (omega arith) size))
  word_spares number word few there dir_there (inr (inr object)) is =
      low_apart (word / 512) (64 * number) is (omega (arith, few)) (one_page (word / 512) (64 * number) is there (word_page img (64 * number) 8 word (omega arith) (omega arith) object))

-- no page comes under a live file by a new entry
pub entry_page : {old new : List ℕ} {dir : ℕ} {f : Inode} {offset : ℕ} {name : List ℕ} {number kind page : ℕ} → Enters old new dir f offset name number kind → IsFilePage new page → IsFilePage old page
entry_page {old} {new} {number = number} e is =
    let c = creates e in
    let there : Owns (view new) (inode_count old) is.file = subst (λ n. Owns (view new) n is.file) c.inodes is.owns in
    let other : is.file ≢ number = λ same. omega (arith, there.level, ap (λ j. (inode (view new) j).level) same, c.makes.level) in
    let owns = owns_back c.makes is.file there in
    let inside : IsIn (part_of (view old) is.file) is.address = subst (λ q. IsIn q is.address) (part-same c.makes is.file owns.live.number other) is.inside in
    let high = high_in (room_of old e.rest.sound owns) inside.from inside.to in
    record {
      file = is.file;
      address = is.address;
      owns = owns;
      kind = sym (kind_stays e is.file owns.live.number other) ∙ is.kind;
      inside = inside;
      is = walk-cell old is.address high ∙ sym ((entry_keeps e).cells 4 (is.address / 4096) (omega arith)) ∙ sym (walk-cell new is.address high) ∙ is.is;
      some = is.some;
    }
