-- A rename spares the pages of live files.
use Rattle.std.proofs.Common.{◌≡◌, ◌≢◌, ℕ, ◌+◌, ◌*◌, ◌/◌, ◌%◌, ◌^◌, ◌<◌, ◌≤◌, List, sym, ap, ◌∙◌, subst, inl, inr, arith}
use Rattle.ct_base.specs.Free.{IsFilePage}
use Rattle.ct_base.specs.Inode.{IsIn, inode, part_bytes}
use Rattle.ct_base.specs.Rules.{apart, Owns, part_of}
use Rattle.ct_base.specs.View.{view, inode_count}
use Rattle.ct_base.specs.Walk.{word, page_at}
use Rattle.ct_base.specs.Words.{place_at}
use Rattle.ct_commit.proofs.Pages.{base_whole, file_cell, high_in, room_of, word_page}
use Rattle.ct_dir.proofs.Held.{used_there}
use Rattle.ct_image.proofs.Steps.{walk-cell}
use Rattle.ct_pm.specs.Device.{IsIn as IsWordIn}
use Rattle.ct_remove.specs.Asked.{IsAsked}
use Rattle.ct_commit.specs.Rest.{IsAtRest}
use Rattle.ct_remove.proofs.Giving.{slot_there}
use Rattle.ct_remove.proofs.Sparing.{gone_apart, removed_page}
use Rattle.ct_rename.specs.Moves.{CanMove, IsLinkWord, IsMoveWord, IsReplaceWord, Moved, Replaces}
use Rattle.ct_rename.proofs.Moving.{count_same, from_ends, from_kind, from_live, from_owns, from_room, from_used, keeps, kind-same, owns_back, part-same, to_few, to_there}
use Rattle.ct_rename.proofs.Replacing.{can_still}

-- a word of a directory's slot is on no page of a file
dir_word : {w : List ℕ} → IsAtRest w → (p n word : ℕ) → Owns (view w) (inode_count w) p → (inode (view w) p).kind ≡ 2 → n % 256 ≡ 0 → n + 256 ≤ part_bytes (inode (view w) p).level
    → page_at w 4 (((inode (view w) p).base + n) / 4096) ≢ 0 → IsWordIn (place_at w ((inode (view w) p).base + n)) 32 word → IsFilePage w (word / 512) → ⊥
dir_word {w} rest p n word owns kind aligned fits there inside is =
    let v = (inode (view w) p).base + n in
    let dir_base = base_whole (room_of w rest.sound owns) in
    let whole : ((inode (view w) p).base + n) % 256 ≡ 0 = omega (arith, dir_base, aligned) in
    let at = word_page w v 32 word (omega (arith, whole)) (omega (arith, whole)) inside in
    let cell = file_cell w rest.sound is in
    let same = (rest.tables.once 4 (is.address / 4096) 4 (((inode (view w) p).base + n) / 4096) (omega arith) (omega arith) (λ z. there (sym at ∙ sym cell ∙ z)) (cell ∙ at)).1 in
    let other : is.file ≢ p = λ e. omega (arith, is.kind, ap (λ j. (inode (view w) j).kind) e, kind) in
    let file_base = base_whole (room_of w rest.sound is.owns) in
    elim (rest.sound apart is.file p is.owns owns other) [
      | inl before ↦ omega (arith, before, is.inside.to, dir_base, same)
      | inr after ↦ omega (arith, after, is.inside.from, file_base, same, fits)
    ]

module _ {w : List ℕ} {d o k s i : ℕ} {name : List ℕ} (a : CanMove w d o k s i name) (fits : (x : ℕ) → word w x < 2 ^ 64) (there : page_at w 4 (((inode (view w) k).base + s) / 4096) ≢ 0) where
  from_there : page_at w 4 (((inode (view w) d).base + o) / 4096) ≢ 0
  from_there = used_there w (inode (view w) d) o a.rest.tables fits (a.rest.sound Rattle.ct_base.specs.Rules.placed d (from_live a)) (from_used a)

  link_spares : (word : ℕ) → IsLinkWord w ((inode (view w) d).base + o) ((inode (view w) k).base + s) word → IsFilePage w (word / 512) → ⊥
  link_spares word (inl from) is = dir_word a.rest d o word (from_owns a) (from_kind a) a.slot.aligned (omega (arith, from_ends a, (from_room a).size)) from_there from is
  link_spares word (inr to) is = dir_word a.rest k s word a.owns a.kind a.aligned a.fits there to is

  pub move_spares : (word : ℕ) → IsMoveWord w ((inode (view w) d).base + o) ((inode (view w) k).base + s) k word → IsFilePage w (word / 512) → ⊥
  move_spares word (inl link) is = link_spares word link is
  move_spares word (inr size) is =
      let page : (64 * k + 8) / 4096 ≡ 64 * k / 4096 = omega arith in
      let at = word_page w (64 * k + 8) 1 word (omega arith) (omega arith) size in
      let cell = file_cell w a.rest.sound is in
      let there' = to_there a in
      let same = (a.rest.tables.once 4 (is.address / 4096) 4 ((64 * k + 8) / 4096) (omega arith) (omega arith) (λ z. there' (ap (page_at w 4) (sym page) ∙ sym at ∙ sym cell ∙ z)) (cell ∙ at)).1 in
      let low = (room_of w a.rest.sound is.owns).part.low in
      omega (arith, low, is.inside.from, same, to_few a)

-- and one that replaces
pub replace_spares : {w : List ℕ} {d o k s i j : ℕ} {name : List ℕ} → CanMove w d o k s i name → IsAsked w k s j → ((x : ℕ) → word w x < 2 ^ 64) → (word : ℕ) → IsReplaceWord w ((inode (view w) d).base + o) (inode (view w) k).base s j word → IsFilePage w (word / 512) → ⊥
replace_spares a asked fits word (inl link) is = link_spares a fits (slot_there asked fits) word link is
replace_spares a asked fits word (inr gone) is = gone_apart asked fits word gone is

-- a page of a live file after it was one before
pub moved_page : {w new : List ℕ} {d o k s i page : ℕ} {name : List ℕ} → Moved w new d o k s i name → IsFilePage new page → IsFilePage w page
moved_page {w} {new} m is =
    let there : Owns (view new) (inode_count w) is.file = subst (λ n. Owns (view new) n is.file) (count_same m) is.owns in
    let owns = owns_back m is.file there in
    let inside : IsIn (part_of (view w) is.file) is.address = subst (λ q. IsIn q is.address) (part-same m is.file owns.live.number) is.inside in
    let high = high_in (room_of w m.can.rest.sound owns) inside.from inside.to in
    record {
      file = is.file;
      address = is.address;
      owns = owns;
      kind = sym (kind-same m is.file owns.live.number) ∙ is.kind;
      inside = inside;
      is = walk-cell w is.address high ∙ sym ((keeps m).cells 4 (is.address / 4096) (omega arith)) ∙ sym (walk-cell new is.address high) ∙ is.is;
      some = is.some;
    }

pub replaced_page : {w new : List ℕ} {d o k s i j page : ℕ} {name : List ℕ} → (a : CanMove w d o k s i name) (asked : IsAsked w k s j) (away : d ≡ k → o ≢ s) → ((n : ℕ) → Rattle.std.specs.Prelude.slice_index name n < 256) → (r : Replaces w new d o k s i j name) → IsFilePage new page → IsFilePage w page
replaced_page a asked away small r is = removed_page asked r.removes (moved_page (record { can = can_still a asked r.removes away r.shut; moves = r.moves; small = small }) is)
