-- The record of a removal spares the pages of live files.
use Rattle.std.proofs.Common.{◌≡◌, ◌≢◌, ℕ, ◌+◌, ◌*◌, ◌/◌, ◌^◌, ◌<◌, List, sym, ap, ◌∙◌, subst, inl, inr, arith}
use Rattle.ct_base.specs.Free.{IsFilePage}
use Rattle.ct_base.specs.Inode.{IsIn, inode, part_bytes}
use Rattle.ct_base.specs.Rules.{apart, Owns, part_of}
use Rattle.ct_base.specs.View.{view, inode_count}
use Rattle.ct_base.specs.Walk.{word}
use Rattle.ct_image.proofs.Steps.{walk-cell}
use Rattle.ct_commit.proofs.Pages.{base_whole, file_cell, high_in, room_of}
use Rattle.ct_remove.specs.Asked.{IsAsked}
use Rattle.ct_remove.specs.Erased.{IsErased, IsGone, Removes}
use Rattle.ct_remove.proofs.Asked.{dir_kind, dir_owns, dir_room, few, object_live, slot_ends}
use Rattle.ct_remove.proofs.Giving.{object_page, object_there, slot_page, slot_there}
use Rattle.ct_remove.proofs.Removing.{count_same, freed, words}

module _ {old : List ℕ} {dir offset number : ℕ} (a : IsAsked old dir offset number) (fits : (w : ℕ) → word old w < 2 ^ 64) where
  -- the page of an erased word is no page of a file
  erased_apart : (word : ℕ) → IsErased old (inode (view old) dir).base offset number word → IsFilePage old (word / 512) → ⊥
  erased_apart word (inl slot) is =
      let at = slot_page a fits word slot in
      let cell = file_cell old a.rest.sound is in
      let same = (a.rest.tables.once 4 (is.address / 4096) 4 (((inode (view old) dir).base + offset) / 4096) (omega arith) (omega arith) (λ z. slot_there a fits (sym at ∙ sym cell ∙ z)) (cell ∙ at)).1 in
      let other : is.file ≢ dir = λ e. omega (arith, is.kind, ap (λ j. (inode (view old) j).kind) e, dir_kind a) in
      let file_base = base_whole (room_of old a.rest.sound is.owns) in
      let dir_base = base_whole (dir_room a) in
      elim (a.rest.sound apart is.file dir is.owns (dir_owns a) other) [
        | inl before ↦ omega (arith, before, is.inside.to, dir_base, same)
        | inr after ↦ omega (arith, after, is.inside.from, file_base, same, slot_ends a, (dir_room a).size)
      ]
  erased_apart word (inr object) is =
      let at = object_page a fits word object in
      let cell = file_cell old a.rest.sound is in
      let same = (a.rest.tables.once 4 (is.address / 4096) 4 (64 * number / 4096) (omega arith) (omega arith) (λ z. object_there a (sym at ∙ sym cell ∙ z)) (cell ∙ at)).1 in
      let low = (room_of old a.rest.sound is.owns).part.low in
      omega (arith, low, is.inside.from, same, few a, (object_live a).number.to)

  pub gone_apart : (word : ℕ) → IsGone old (inode (view old) dir).base offset number word → IsFilePage old (word / 512) → ⊥
  gone_apart word (inl erased) is = erased_apart word erased is
  gone_apart word (inr bare) is =
      let low = (room_of old a.rest.sound is.owns).part.low in
      bare (is.address / 4096) (omega (arith, low, is.inside.from)) (file_cell old a.rest.sound is)

-- a page of a live file after it was one before
pub removed_page : {old new : List ℕ} {dir offset number page : ℕ} (a : IsAsked old dir offset number) (r : Removes old new dir offset number) → IsFilePage new page → IsFilePage old page
removed_page {old} {new} {dir} {offset} {number} a r is =
    let there : Owns (view new) (inode_count old) is.file = subst (λ n. Owns (view new) n is.file) (count_same a r) is.owns in
    let other : is.file ≢ number = λ same. there.live.used (ap (λ j. (inode (view new) j).kind) same ∙ freed a r 0 (omega arith)) in
    let at = λ (k : ℕ) (lt : k < 8). words a r is.file k there.live.number other lt in
    let kind : (inode (view new) is.file).kind ≡ (inode (view old) is.file).kind = at 0 (omega arith) in
    let base : (inode (view new) is.file).base ≡ (inode (view old) is.file).base = at 2 (omega arith) in
    let level : (inode (view new) is.file).level ≡ (inode (view old) is.file).level = at 3 (omega arith) in
    let owns : Owns (view old) (inode_count old) is.file = record { live = record { number = there.live.number; used = λ z. there.live.used (kind ∙ z) }; level = omega (arith, there.level, level) } in
    let bytes : part_bytes (inode (view new) is.file).level ≡ part_bytes (inode (view old) is.file).level = ap part_bytes level in
    let inside : IsIn (part_of (view old) is.file) is.address = record { from = omega (arith, is.inside.from, base); to = omega (arith, is.inside.to, base, bytes) } in
    let room = room_of old a.rest.sound owns in
    let high = high_in room inside.from inside.to in
    let whole = base_whole room in
    let q = is.address / 4096 in
    let off : Owns (view old) (inode_count old) number → IsIn (part_of (view old) number) (is.address / 4096 * 4096) → ⊥ =
    λ mine within. elim (a.rest.sound apart is.file number owns mine other) [
      | inl before ↦ omega (arith, before, within.from, inside.to)
      | inr after ↦ omega (arith, after, within.to, inside.from, whole)
    ] in
    record {
      file = is.file;
      address = is.address;
      owns = owns;
      kind = sym kind ∙ is.kind;
      inside = inside;
      is = walk-cell old is.address high ∙ sym (r.pages (is.address / 4096) (omega (arith, room.part.low, inside.from)) off) ∙ sym (walk-cell new is.address high) ∙ is.is;
      some = is.some;
    }
