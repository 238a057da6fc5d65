-- The words once a slot and an inode are erased, and the partition is given up.
use Rattle.std.proofs.Common.{◌≡◌, ℕ, ◌+◌, ◌-◌, ◌*◌, ◌/◌, ◌%◌, ◌^◌, ◌<◌, ◌≤◌, ◌⊎◌, List, length, refl, sym, ap, subst, ◌∙◌, inl, inr, arith}
use Rattle.std.specs.Prelude.{◌==◌, not, nat_le, nat_lt, slice_index, true, false}
use Rattle.std.proofs.Math.Nat.{zero-div}
use Rattle.std.proofs.lemmas.Bool.{and_from, and_right, cases_lt, cond-false, cond-true, le-leb, lt-ltb, ne_eqb, or_left, or_right}
use Rattle.std.proofs.lemmas.List.{get_or-replicate, get_or_past}
use Rattle.ct_base.specs.Headers.{HeadersStand, StandFor, is_one, without}
use Rattle.ct_base.specs.Inode.{IsIn, has_part, inode, live_parts, number_of, part}
use Rattle.ct_base.specs.Rules.{Owns, part_of, apart, headers, placed}
use Rattle.ct_base.specs.View.{is_seen, view, inode_count}
use Rattle.ct_base.specs.Walk.{page_at}
use Rattle.ct_cut.specs.GivenUp.{GivesUp}
use Rattle.ct_dir.proofs.Held.{slot_high}
use Rattle.ct_dir.specs.Packed.{empty_words}
use Rattle.ct_grow.proofs.Heads.{path_bounds}
use Rattle.ct_grow.proofs.Listed.{headers_same}
use Rattle.ct_header.specs.Drafted.{IsInHeader}
use Rattle.ct_inode.specs.Drafted.{inode_words}
use Rattle.ct_inode.proofs.Rewritten.{view_inside, view_outside}
use Rattle.ct_parts.proofs.Lists.{base-is}
use Rattle.ct_parts.proofs.Live.{live_stand}
use Rattle.ct_commit.proofs.Pages.{base_whole, room_of}
use Rattle.ct_state.proofs.Owners.{owner_one}
use Rattle.ct_remove.specs.Asked.{IsAsked}
use Rattle.ct_remove.specs.Erased.{Erases, Removes, no_inode}
use Rattle.ct_remove.proofs.Asked.{dir_other, dir_owns, dir_room, few, not_owns, object_live, slot_ends}

-- a partition's bytes are looked at
pub seen_part : (v : ℕ) → 10 * 2 ^ 39 ≤ v → v < 2 ^ 48 → is_seen v ≡ true
seen_part v low high = or_right (nat_lt v (2 ^ 40)) _ (and_from (nat_le (10 * 2 ^ 39) v) (nat_lt v (2 ^ 48)) (le-leb (10 * 2 ^ 39) v low) (lt-ltb v (2 ^ 48) high))

seen_low : (v : ℕ) → v < 2 ^ 40 → is_seen v ≡ true
seen_low v low = or_left (nat_lt v (2 ^ 40)) _ (lt-ltb v (2 ^ 40) low)

-- ---- the words of nothing

pub empty_at : (k : ℕ) → slice_index empty_words k ≡ 0
unfolding empty_words
empty_at k = elim (cases_lt k 32) [ inl lt ↦ get_or-replicate 32 k 0 0 lt | inr past ↦ get_or_past empty_words k 0 (omega arith) ]

pub empty_length : length empty_words ≡ 32
unfolding empty_words
empty_length = refl

free_at : (k : ℕ) → slice_index (inode_words no_inode) k ≡ 0
free_at k = elim (cases_lt k 8) [ inl lt ↦ get_or-replicate 8 k 0 0 lt | inr past ↦ get_or_past (inode_words no_inode) k 0 past ]

pub zero_byte : (x n : ℕ) → x ≡ 0 → x % 18446744073709551616 / 256 ^ n % 256 ≡ 0
zero_byte x n z = ap (λ y. y % 18446744073709551616 / 256 ^ n % 256) z ∙ ap (λ y. y % 256) (zero-div (256 ^ n))

module _ {old mid : List ℕ} {dir offset number : ℕ} (a : IsAsked old dir offset number) (e : Erases old mid (inode (view old) dir).base offset number) where
  abbrev base : ℕ
  base = (inode (view old) dir).base

  most : number ≤ 1048576
  most = omega (arith, few a, (object_live a).number.to)

  base_low : 10 * 2 ^ 39 ≤ (inode (view old) dir).base
  base_low = (dir_room a).part.low

  place_whole : ((inode (view old) dir).base + offset) % 8 ≡ 0
  place_whole = omega (arith, base_whole (dir_room a), a.leaf.slot.aligned)

  high : (inode (view old) dir).base + offset + 256 ≤ 2 ^ 48
  high = omega (arith, slot_high (offset + 255) (dir_room a) (omega (arith, slot_ends a, (dir_room a).size)))

  erased_others : (v : ℕ) → (v < 64 * number) ⊎ (64 * number + 64 ≤ v) → (v < (inode (view old) dir).base + offset) ⊎ ((inode (view old) dir).base + offset + 256 ≤ v) → view mid v ≡ view old v
  erased_others v object slot =
      view_outside e.object (omega arith) v (elim object [ inl before ↦ inl before | inr past ↦ inr (omega (arith, past)) ])
      ∙ view_outside e.slot place_whole v (elim slot [ inl before ↦ inl before | inr past ↦ inr (omega (arith, past, empty_length)) ])

  erased_slot : (k : ℕ) → k < 256 → view mid ((inode (view old) dir).base + offset + k) ≡ 0
  erased_slot k lt =
      let v = (inode (view old) dir).base + offset + k in
      view_outside e.object (omega arith) ((inode (view old) dir).base + offset + k) (inr (omega (arith, base_low, most)))
      ∙ view_inside e.slot place_whole ((inode (view old) dir).base + offset + k) (seen_part ((inode (view old) dir).base + offset + k) (omega (arith, base_low)) (omega (arith, high, lt))) (omega arith) (omega (arith, lt, empty_length))
      ∙ zero_byte (slice_index empty_words (((inode (view old) dir).base + offset + k - ((inode (view old) dir).base + offset)) / 8)) (((inode (view old) dir).base + offset + k) % 8) (empty_at _)

  erased_object : (k : ℕ) → k < 64 → view mid (64 * number + k) ≡ 0
  erased_object k lt =
      view_inside e.object (omega arith) (64 * number + k) (seen_low (64 * number + k) (omega (arith, most, lt))) (omega arith) (omega (arith, lt))
      ∙ zero_byte (slice_index (inode_words no_inode) ((64 * number + k - 64 * number) / 8)) ((64 * number + k) % 8) (free_at _)

  erased_headers : (v : ℕ) → 2 ^ 39 ≤ v → v < 2 ^ 40 → view mid v ≡ view old v
  erased_headers v from to = erased_others v (inr (omega (arith, from, most))) (inl (omega (arith, to, base_low)))

  erased_cells : (d x : ℕ) → d ≤ 4 → page_at mid d x ≡ page_at old d x
  erased_cells d x le = e.object.cells d x le ∙ e.slot.cells d x le

  stands : StandFor (view old) (live_parts (view old) (inode_count old))
  stands = live_stand (view old) (inode_count old) (a.rest.sound placed) (a.rest.sound apart) (a.rest.sound headers)

  -- an object without a partition
  pub removes_bare : (inode (view old) number).level ≡ 15 → Removes old mid dir offset number
  removes_bare none = record {
    slot = erased_slot;
    object = erased_object;
    headers = subst (HeadersStand (view mid)) (sym (cond-false (has_part (inode (view old) number)) (without (part_of (view old) number) (live_parts (view old) (inode_count old))) (live_parts (view old) (inode_count old)) no_part))
        (headers_same (view old) (view mid) (live_parts (view old) (inode_count old)) erased_headers stands.stand);
    others = λ v beside. erased_others v beside.object beside.slot;
    unmapped = λ owns q inside. absurd (not_owns a none owns);
    pages = λ q from out. erased_cells 4 q (omega arith);
    roots = λ k from to. erased_cells 1 k (omega arith);
    staging = λ no. erased_cells 1 2 (omega arith);
    tables = e.object.tables;
    fresh = λ q f d x le is. f d x le (sym (erased_cells d x le) ∙ is);
    reached = λ q f d x le is. f d x le (erased_cells d x le ∙ is);
    head = λ w lt. e.object.head w lt ∙ e.slot.head w lt;
    size = e.object.size ∙ e.slot.size;
  }
    where
      no_part : has_part (inode (view old) number) ≡ false
      no_part = and_right (not ((inode (view old) number).kind == 0)) (nat_le (inode (view old) number).level 9) (ap (λ l. nat_le l 9) none)

  -- and one whose partition is given up
  pub removes_whole : {new : List ℕ} → Owns (view old) (inode_count old) number → GivesUp mid new (part (inode (view old) number)) → Removes old new dir offset number
  removes_whole {new} owns g = record {
    slot = λ k lt. g.others ((inode (view old) dir).base + offset + k) (not_header ((inode (view old) dir).base + offset + k) (inr (omega (arith, base_low)))) (slot_off k lt) ∙ erased_slot k lt;
    object = λ k lt. g.others (64 * number + k) (not_header (64 * number + k) (inl (omega (arith, most, lt)))) (λ inside. omega (arith, inside.from, part_low, most, lt)) ∙ erased_object k lt;
    headers = subst (HeadersStand (view new)) (sym (cond-true (has_part (inode (view old) number)) (without (part_of (view old) number) (live_parts (view old) (inode_count old))) (live_parts (view old) (inode_count old)) some_part))
        (g.stand (live_parts (view old) (inode_count old)) (record { apart = stands.apart; stand = headers_same (view old) (view mid) (live_parts (view old) (inode_count old)) erased_headers stands.stand }) one).stand;
    others = λ v beside. g.others v (not_header v beside.side) (beside.part owns) ∙ erased_others v beside.object beside.slot;
    unmapped = λ o q inside. g.unmapped q inside;
    pages = λ q from out. g.pages q (omega (arith, from)) (out owns) ∙ erased_cells 4 q (omega arith);
    roots = λ k from to. g.roots k from to ∙ erased_cells 1 k (omega arith);
    staging = λ no. absurd (no owns);
    tables = g.tables;
    fresh = λ q f. g.fresh q (λ d x le is. f d x le (sym (erased_cells d x le) ∙ is));
    reached = λ q f d x le is. g.reached q f d x le (erased_cells d x le ∙ is);
    head = λ w lt. g.head w lt ∙ e.object.head w lt ∙ e.slot.head w lt;
    size = g.size ∙ e.object.size ∙ e.slot.size;
  }
    where
      room : Rattle.ct_base.specs.Rules.HasRoom (inode (view old) number)
      room = room_of old a.rest.sound owns

      part_low : 10 * 2 ^ 39 ≤ (inode (view old) number).base
      part_low = room.part.low

      some_part : has_part (inode (view old) number) ≡ true
      some_part = and_from (not ((inode (view old) number).kind == 0)) (nat_le (inode (view old) number).level 9) (ap not (ne_eqb (inode (view old) number).kind 0 owns.live.used)) (le-leb (inode (view old) number).level 9 owns.level)

      one : is_one (live_parts (view old) (inode_count old)) (inode (view old) number).level (number_of (part (inode (view old) number))) ≡ true
      one = owner_one (view old) (inode_count old) (inode (view old) number).level (number_of (part (inode (view old) number))) (record {
        inode_number = number;
        from = owns.live.number.from;
        to = owns.live.number.to;
        has = some_part;
        level = refl;
        base = base-is (part (inode (view old) number)) room.part;
      })

      not_header : (v : ℕ) → (v < 2 ^ 39) ⊎ (10 * 2 ^ 39 ≤ v) → IsInHeader (part (inode (view old) number)) v → ⊥
      not_header v side inside =
          let at = path_bounds (part (inode (view old) number)) room.part inside.address inside.on_path in
          elim side [ inl below ↦ omega (arith, below, at.0, inside.from) | inr above ↦ omega (arith, above, at.1, at.2, inside.to) ]

      slot_off : (k : ℕ) → k < 256 → IsIn (part (inode (view old) number)) ((inode (view old) dir).base + offset + k) → ⊥
      slot_off k lt inside = elim (a.rest.sound apart dir number (dir_owns a) owns (dir_other a)) [
        | inl before ↦ omega (arith, before, inside.from, slot_ends a, (dir_room a).size, lt)
        | inr after ↦ omega (arith, after, inside.to)
      ]
