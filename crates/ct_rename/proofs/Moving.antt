-- The rules and the objects once an entry has left its slot for another.
use Rattle.std.proofs.Common.{◌≡◌, ◌≢◌, ℕ, zero, suc, ◌+◌, ◌-◌, ◌*◌, ◌/◌, ◌%◌, ◌^◌, ◌<◌, ◌≤◌, ◌⊎◌, true, false, List, length, refl, sym, ap, subst, ◌∙◌, inl, inr, arith}
use Rattle.std.specs.Prelude.{◌==◌, ◌&&◌, not, nat_le, slice_index, max}
use Rattle.std.proofs.lemmas.Bool.{cases_eq, cases_lt, eq-eqb, eqb-true}
use Rattle.ct_base.specs.Headers.{HeadersStand, byte_place}
use Rattle.ct_base.specs.Inode.{AreApart, IsIn, IsLive, IsNumber, IsPart, has_part, inode, inode_word, live_parts, part_bytes}
use Rattle.ct_base.specs.Objects.{Object, object, objects}
use Rattle.ct_base.specs.Rules.{HasRoom, IsInode, IsMappedInParts, IsPlaced, Owns, Sound, entries, once, inodes, placed, apart, tails, mapped, headers, rest, slots, names, named, reached, part_of}
use Rattle.ct_base.specs.Settled.{IsShut}
use Rattle.ct_base.specs.View.{view, inode_count}
use Rattle.ct_base.specs.Walk.{word, page_at, AreTables}
use Rattle.ct_base.specs.Words.{word_at}
use Rattle.ct_commit.proofs.Pages.{base_whole, room_of}
use Rattle.ct_commit.specs.Rest.{IsAtRest, KeepsTables}
use Rattle.ct_dir.proofs.Held.{room_there, slot_high}
use Rattle.ct_dir.proofs.Texts.{length-slot_words}
use Rattle.ct_dir.proofs.Written.{is_name-length, slot_words-fit}
use Rattle.ct_base.specs.Slots.{IsSlot}
use Rattle.ct_dir.specs.Directory.{dir_of}
use Rattle.ct_dir.specs.Packed.{empty_words, slot_words}
use Rattle.ct_inode.proofs.Loaded.{kind_none, word_shown}
use Rattle.ct_inode.proofs.Rewritten.{view_inside, view_outside, word_inside}
use Rattle.ct_parts.proofs.Stand.{place_bounds}
use Rattle.ct_path.proofs.Sounds.{is_live}
use Rattle.ct_commit.proofs.States.{head_over}
use Rattle.ct_state.specs.Alike.{IsWhole}
use Rattle.ct_state.specs.Edits.{slot_byte, without_slot}
use Rattle.ct_state.specs.Forest.{OneTree}
use Rattle.ct_state.proofs.Added.{forest_rules}
use Rattle.ct_state.proofs.Addressed.{Empties, Fills, moved_objects, moved_within_objects}
use Rattle.ct_state.proofs.Bytes.{SameObject, content-at, little-same, objects-in}
use Rattle.ct_state.proofs.Edits.{beside_or, kept_out, zeros_in}
use Rattle.ct_state.proofs.Rebuilt.{Rebuilt, rebuilt_space}
use Rattle.ct_state.proofs.Write.{HasSpace}
use Rattle.ct_tree.specs.Lands.{files}
use Rattle.ct_tree.specs.Tree.{Tree}
use Rattle.ct_remove.proofs.Erasing.{empty_at, empty_length, seen_part, zero_byte}
use Rattle.ct_rename.specs.Moves.{CanMove, Moved, moved}
use Rattle.ct_rename.proofs.Bytes.{slot_bytes}

-- ---- before

module _ {w : List ℕ} {d o k s i : ℕ} {name : List ℕ} (a : CanMove w d o k s i name) where
  pub few : inode_count w ≤ 1048576
  few = a.rest.head.inodes.1

  pub from_live : IsLive (view w) (inode_count w) d
  from_live = is_live w a.rest.sound few d (λ z. omega (arith, z, a.slot.dir))

  pub from_object : files w d ≡ object (view w) d
  from_object = objects-in (view w) (inode_count w) d from_live.number

  pub from_kind : (inode (view w) d).kind ≡ 2
  from_kind = ap (λ (f : Object). f.kind) (sym from_object) ∙ a.slot.dir

  pub from_ends : o + 256 ≤ (inode (view w) d).size
  from_ends = omega (arith, a.slot.below, a.slot.aligned, ap (λ (f : Object). f.size) from_object, (a.rest.sound placed d from_live).slots from_kind)

  pub from_room : HasRoom (inode (view w) d)
  from_room = room_there (a.rest.sound placed d from_live) (omega (arith, from_ends))

  pub from_owns : Owns (view w) (inode_count w) d
  from_owns = record { live = from_live; level = from_room.part.level }

  pub to_room : HasRoom (inode (view w) k)
  to_room = room_of w a.rest.sound a.owns

  pub to_few : k ≤ 1048576
  to_few = omega (arith, few, a.owns.live.number.to)

  -- the slot ends within the length of a root slot
  pub to_fits : s + 256 ≤ 2 ^ 39
  to_fits = omega (arith, a.fits, (Rattle.ct_dir.proofs.Held.part_bounds (inode (view w) k).level (inode (view w) k).base to_room.part.level to_room.part.aligned to_room.part.high).2)

  -- the directory's inode is mapped
  pub to_there : page_at w 4 (64 * k / 4096) ≢ 0
  to_there z =
      let page : 64 * k / 4096 ≡ k / 64 = omega arith in
      a.owns.live.used (kind_none w k to_few (ap (page_at w 4) (sym page) ∙ z))

  pub from_used : IsSlot (dir_of w (inode (view w) d)) o
  from_used = subst (λ f. IsSlot f o) from_object a.slot

  pub from_whole : ((inode (view w) d).base + o) % 256 ≡ 0
  from_whole = omega (arith, base_whole from_room, a.slot.aligned)

  pub to_whole : ((inode (view w) k).base + s) % 256 ≡ 0
  to_whole = omega (arith, base_whole to_room, a.aligned)

  pub from_high : (inode (view w) d).base + o + 256 ≤ 2 ^ 48
  from_high = omega (arith, slot_high (o + 255) from_room (omega (arith, from_ends, from_room.size)))

  pub to_high : (inode (view w) k).base + s + 256 ≤ 2 ^ 48
  to_high = omega (arith, slot_high (s + 255) to_room (omega (arith, a.fits)))

  space : HasSpace (view w) (inode_count w)
  space = record {
    few = few;
    inodes = a.rest.sound inodes;
    placed = a.rest.sound placed;
    apart = a.rest.sound apart;
    tails = a.rest.sound tails;
    headers = a.rest.sound headers;
    rest = a.rest.sound rest;
  }

-- ---- after

module _ {w new : List ℕ} {d o k s i : ℕ} {name : List ℕ} (m : Moved w new d o k s i name) where
  abbrev a : CanMove w d o k s i name
  a = m.can

  abbrev b : ℕ → ℕ
  b = view w

  abbrev c : ℕ → ℕ
  c = view new

  abbrev count : ℕ
  count = inode_count w

  abbrev base_d : ℕ
  base_d = (inode (view w) d).base

  abbrev base_k : ℕ
  base_k = (inode (view w) k).base

  low_d : 10 * 2 ^ 39 ≤ (inode (view w) d).base
  low_d = (from_room a).part.low

  low_k : 10 * 2 ^ 39 ≤ (inode (view w) k).base
  low_k = (to_room a).part.low

  -- ---- by address

  clear_others : (v : ℕ) → (v < (inode (view w) d).base + o) ⊎ ((inode (view w) d).base + o + 256 ≤ v) → view m.moves.links.middle v ≡ view w v
  clear_others v off = view_outside m.moves.links.clear (omega (arith, from_whole a)) v (elim off [ inl before ↦ inl before | inr past ↦ inr (omega (arith, past, empty_length)) ])

  slot_others : (v : ℕ) → (v < (inode (view w) k).base + s) ⊎ ((inode (view w) k).base + s + 256 ≤ v) → view m.moves.linked v ≡ view m.moves.links.middle v
  slot_others v off = view_outside m.moves.links.slot (omega (arith, to_whole a)) v (elim off [ inl before ↦ inl before | inr past ↦ inr (omega (arith, past, length-slot_words i name)) ])

  size_others : (v : ℕ) → (v < 64 * k + 8) ⊎ (64 * k + 16 ≤ v) → view new v ≡ view m.moves.linked v
  size_others v off = elim m.moves.size [
    | inl kept ↦ ap (λ (img : List ℕ). view img v) kept.1
    | inr more ↦ view_outside more.1 (omega arith) v (elim off [ inl low ↦ inl low | inr high ↦ inr (omega (arith, high)) ])
  ]

  others : (v : ℕ) → (v < 64 * k + 8) ⊎ (64 * k + 16 ≤ v) → (v < (inode (view w) d).base + o) ⊎ ((inode (view w) d).base + o + 256 ≤ v)
      → (v < (inode (view w) k).base + s) ⊎ ((inode (view w) k).base + s + 256 ≤ v) → view new v ≡ view w v
  others v size from to = size_others v size ∙ slot_others v to ∙ clear_others v from

  low : (v : ℕ) → v < 10 * 2 ^ 39 → (v < 64 * k + 8) ⊎ (64 * k + 16 ≤ v) → view new v ≡ view w v
  low v lt size = others v size (inl (omega (arith, lt, low_d))) (inl (omega (arith, lt, low_k)))

  cleared : (n : ℕ) → n < 256 → ((inode (view w) d).base + o + n < (inode (view w) k).base + s) ⊎ ((inode (view w) k).base + s + 256 ≤ (inode (view w) d).base + o + n) → view new ((inode (view w) d).base + o + n) ≡ 0
  cleared n lt off =
      size_others ((inode (view w) d).base + o + n) (inr (omega (arith, low_d, to_few a)))
      ∙ slot_others ((inode (view w) d).base + o + n) off
      ∙ view_inside m.moves.links.clear (omega (arith, from_whole a)) ((inode (view w) d).base + o + n) (seen_part ((inode (view w) d).base + o + n) (omega (arith, low_d)) (omega (arith, from_high a, lt))) (omega arith) (omega (arith, lt, empty_length))
      ∙ zero_byte (slice_index empty_words (((inode (view w) d).base + o + n - ((inode (view w) d).base + o)) / 8)) (((inode (view w) d).base + o + n) % 8) (empty_at _)

  slot_word : (n : ℕ) → slice_index (slot_words i name) n % 2 ^ 64 ≡ slice_index (slot_words i name) n
  slot_word n = let fits = slot_words-fit i name n (omega (arith, a.few)) (is_name-length name a.lawful).1 m.small in omega (arith, fits)

  filled : (n : ℕ) → n < 256 → view new ((inode (view w) k).base + s + n) ≡ slot_byte i name n
  filled n lt =
      let at : ((inode (view w) k).base + s + n - ((inode (view w) k).base + s)) / 8 ≡ n / 8 = omega arith in
      let byte : ((inode (view w) k).base + s + n) % 8 ≡ n % 8 = omega (arith, to_whole a) in
      size_others ((inode (view w) k).base + s + n) (inr (omega (arith, low_k, to_few a)))
      ∙ view_inside m.moves.links.slot (omega (arith, to_whole a)) ((inode (view w) k).base + s + n) (seen_part ((inode (view w) k).base + s + n) (omega (arith, low_k)) (omega (arith, to_high a, lt))) (omega arith) (omega (arith, lt, length-slot_words i name))
      ∙ ap (λ j. slice_index (slot_words i name) j % 18446744073709551616 / 256 ^ (((inode (view w) k).base + s + n) % 8) % 256) at
      ∙ ap (λ j. slice_index (slot_words i name) (n / 8) % 18446744073709551616 / 256 ^ j % 256) byte
      ∙ ap (λ x. x / 256 ^ (n % 8) % 256) (slot_word (n / 8))
      ∙ slot_bytes i name n lt m.small

  pub words : (j n : ℕ) → IsNumber (inode_count w) j → n < 8 → (j ≡ k → n ≢ 1) → inode_word (view new) j n ≡ inode_word (view w) j n
  words j n number lt other =
      little-same (view w) (view new) (64 * j + 8 * n) (64 * j + 8 * n) 8 (λ e small. low (64 * j + 8 * n + e) (omega (arith, number.to, few a))
      (elim (cases_lt (64 * j + 8 * n + e) (64 * k + 8)) [
        | inl lower ↦ inl lower
        | inr up ↦ inr (elim (cases_eq j k) [ inl here ↦ let not_size : n ≢ 1 = other here in omega arith | inr there ↦ omega arith ])
      ]))

  pub kind-same : (j : ℕ) → IsNumber (inode_count w) j → (inode (view new) j).kind ≡ (inode (view w) j).kind
  kind-same j number = words j 0 number (omega arith) (λ here. omega arith)

  pub base-same : (j : ℕ) → IsNumber (inode_count w) j → (inode (view new) j).base ≡ (inode (view w) j).base
  base-same j number = words j 2 number (omega arith) (λ here. omega arith)

  pub level-same : (j : ℕ) → IsNumber (inode_count w) j → (inode (view new) j).level ≡ (inode (view w) j).level
  level-same j number = words j 3 number (omega arith) (λ here. omega arith)

  pub part-same : (j : ℕ) → IsNumber (inode_count w) j → part_of (view new) j ≡ part_of (view w) j
  part-same j number = let p = base-same j number in let q = level-same j number in λ e. record { base = p e; level = q e }

  pub owns_back : (j : ℕ) → Owns (view new) (inode_count w) j → Owns (view w) (inode_count w) j
  owns_back j owns = record {
    live = record { number = owns.live.number; used = λ z. owns.live.used (kind-same j owns.live.number ∙ z) };
    level = omega (arith, owns.level, level-same j owns.live.number);
  }

  pub owns_on : (j : ℕ) → Owns (view w) (inode_count w) j → Owns (view new) (inode_count w) j
  owns_on j owns = record {
    live = record { number = owns.live.number; used = λ z. owns.live.used (sym (kind-same j owns.live.number) ∙ z) };
    level = omega (arith, owns.level, level-same j owns.live.number);
  }

  has_part-same : (j : ℕ) → IsNumber (inode_count w) j → has_part (inode (view new) j) ≡ has_part (inode (view w) j)
  has_part-same j number = ap (λ n. not (n == 0) && nat_le (inode (view new) j).level 9) (kind-same j number) ∙ ap (λ l. not ((inode (view w) j).kind == 0) && nat_le l 9) (level-same j number)

  live_parts-same : (n : ℕ) → n ≤ inode_count w → live_parts (view new) n ≡ live_parts (view w) n
  unfolding live_parts
  live_parts-same zero le = refl
  live_parts-same (suc n) le =
      let number : IsNumber (inode_count w) (suc n) = record { from = omega arith; to = le } in
      rw (has_part-same (suc n) number, part-same (suc n) number, live_parts-same n (omega arith)) refl

  -- a byte of a partition, but for the slots
  in_part : (j n : ℕ) → Owns (view w) (inode_count w) j → n < part_bytes (inode (view w) j).level → (j ≡ d → (n < o) ⊎ (o + 256 ≤ n)) → (j ≡ k → (n < s) ⊎ (s + 256 ≤ n))
      → view new ((inode (view w) j).base + n) ≡ view w ((inode (view w) j).base + n)
  in_part j n owns lt from to =
      let base_low = (room_of w a.rest.sound owns).part.low in
      others ((inode (view w) j).base + n) (inr (omega (arith, base_low, to_few a)))
      (elim (cases_eq j d) [
        | inl is ↦
            let base : (inode (view w) j).base ≡ (inode (view w) d).base = ap (λ e. (inode (view w) e).base) is in
            elim (from is) [ inl before ↦ inl (omega (arith, base, before)) | inr past ↦ inr (omega (arith, base, past)) ]
        | inr away ↦ elim (a.rest.sound apart j d owns (from_owns a) away) [
          | inl before ↦ inl (omega (arith, before, lt))
          | inr after ↦ inr (omega (arith, after, from_ends a, (from_room a).size))
        ]
      ])
      (elim (cases_eq j k) [
        | inl is ↦
            let base : (inode (view w) j).base ≡ (inode (view w) k).base = ap (λ e. (inode (view w) e).base) is in
            elim (to is) [ inl before ↦ inl (omega (arith, base, before)) | inr past ↦ inr (omega (arith, base, past)) ]
        | inr away ↦ elim (a.rest.sound apart j k owns a.owns away) [
          | inl before ↦ inl (omega (arith, before, lt))
          | inr after ↦ inr (omega (arith, after, a.fits))
        ]
      ])

  -- the size of the directory
  size_before : inode_word (view m.moves.linked) k 1 ≡ (inode (view w) k).size
  size_before = little-same (view w) (view m.moves.linked) (64 * k + 8 * 1) (64 * k + 8 * 1) 8 (λ n lt.
      slot_others (64 * k + 8 * 1 + n) (inl (omega (arith, low_k, to_few a))) ∙ clear_others (64 * k + 8 * 1 + n) (inl (omega (arith, low_d, to_few a))))

  grown : (inode (view new) k).size ≡ max (inode (view w) k).size (s + 256)
  grown = elim m.moves.size [
    | inl kept ↦ ap (λ (img : List ℕ). inode_word (view img) k 1) kept.1 ∙ size_before ∙ omega (arith, kept.0)
    | inr more ↦
        word_shown new k 1 (to_few a) (omega arith)
        ∙ ap (λ x. x % 18446744073709551616) (ap (word_at new) (omega arith) ∙ word_inside more.1 (omega arith) 0 (omega arith))
        ∙ omega (arith, more.0, to_fits a)
  ]

  whole_k : (inode (view w) k).size % 256 ≡ 0
  whole_k = (a.rest.sound placed k a.owns.live).slots a.kind

  size_more : (inode (view w) k).size ≤ (inode (view new) k).size
  size_more = omega (arith, grown)

  size_ends : s + 256 ≤ (inode (view new) k).size
  size_ends = omega (arith, grown)

  size_fits : (inode (view new) k).size ≤ part_bytes (inode (view w) k).level
  size_fits = omega (arith, grown, a.fits, (to_room a).size)

  size_whole : (inode (view new) k).size % 256 ≡ 0
  size_whole = omega (arith, grown, whole_k, a.aligned)

  -- ---- the rules on space

  is_to : (j : ℕ) → (j == k) ≡ true → j ≡ k
  is_to j h = eqb-true j k h

  not_to : (j : ℕ) → (j == k) ≡ false → j ≢ k
  not_to j h is = (let yes : true ≡ false = sym (eq-eqb j k is) ∙ h in absurd (cc))

  lawful : IsInode (view new) k
  lawful =
      let was = a.rest.sound inodes k a.owns.live.number in
      let kind = kind-same k a.owns.live.number in
      record {
        kind = omega (arith, kind, was.kind);
        free = λ n lt z. absurd (omega (arith, kind, z, a.kind));
        spare = λ n four lt. words k n a.owns.live.number lt (λ here. omega arith) ∙ was.spare n four lt;
        root = λ first. kind ∙ was.root first;
      }

  placed_now : IsPlaced (inode (view new) k)
  placed_now = record {
    place = inr (record {
      part = subst IsPart (sym (part-same k a.owns.live.number)) (to_room a).part;
      size = omega (arith, size_fits, ap part_bytes (level-same k a.owns.live.number));
    });
    slots = λ is. size_whole;
  }

  apart_now : (p q : ℕ) → Owns (view new) (inode_count w) p → Owns (view new) (inode_count w) q → p ≢ q → AreApart (part_of (view new) p) (part_of (view new) q)
  apart_now p q op oq other =
      let was = a.rest.sound apart p q (owns_back p op) (owns_back q oq) other in
      subst (λ y. AreApart y (part_of (view new) q)) (sym (part-same p op.live.number)) (subst (λ y. AreApart (part_of (view w) p) y) (sym (part-same q oq.live.number)) was)

  tail_now : (n : ℕ) → (inode (view new) k).size ≤ n → n < part_bytes (inode (view new) k).level → view new ((inode (view new) k).base + n) ≡ 0
  tail_now n le lt =
      let number = a.owns.live.number in
      let inside : n < part_bytes (inode (view w) k).level = omega (arith, lt, ap part_bytes (level-same k number)) in
      ap (λ v. view new (v + n)) (base-same k number)
      ∙ in_part k n a.owns inside (λ is. inr (omega (arith, from_ends a, ap (λ e. (inode (view w) e).size) is, size_more, le))) (λ is. inr (omega (arith, size_ends, le)))
      ∙ a.rest.sound tails k a.owns n (omega (arith, size_more, le)) inside

  headers_now : HeadersStand (view new) (live_parts (view new) (inode_count w))
  headers_now =
      let dir_low : 64 * k + 16 ≤ 2 ^ 39 = omega (arith, to_few a) in
      let h = a.rest.sound headers in
      subst (HeadersStand (view new)) (sym (live_parts-same (inode_count w) (omega arith))) (record {
        bytes = λ n j less lt. let r = place_bounds n j less lt in low (byte_place n j) (omega (arith, r.1)) (inr (omega (arith, r.0))) ∙ h.bytes n j less lt;
        rest = λ v from to out. low v (omega arith) (inr (omega arith)) ∙ h.rest v from to out;
      })

  rebuilt : Rebuilt (view w) (view new) (inode_count w) (λ j. j == k)
  rebuilt = record {
    space = space a;
    words = λ j n number off lt. words j n number lt (λ is. absurd (not_to j off is));
    past = λ j n off owns from to. in_part j n owns to (λ is. inr (omega (arith, from_ends a, ap (λ e. (inode (view w) e).size) is, from))) (λ is. absurd (not_to j off is));
    lawful = λ j number on. subst (IsInode (view new)) (sym (is_to j on)) lawful;
    placed = λ j live on. subst (λ e. IsPlaced (inode (view new) e)) (sym (is_to j on)) placed_now;
    apart = λ p q on op oq other. apart_now p q op oq other;
    tails = λ j on owns n le lt.
        let is = is_to j on in
        ap (λ e. view new ((inode (view new) e).base + n)) is ∙ tail_now n (omega (arith, le, ap (λ e. (inode (view new) e).size) is)) (omega (arith, lt, ap (λ e. part_bytes (inode (view new) e).level) is));
    headers = headers_now;
    rest = λ v lt out.
        let from = a.owns.live.number.from in
        let to = a.owns.live.number.to in
        low v (omega (arith, lt)) (elim out [ inl l ↦ inl (omega (arith, l, from)) | inr r ↦ inr (omega (arith, r, to)) ]) ∙ a.rest.sound rest v lt out;
  }

  -- ---- the objects

  others_same : (j : ℕ) → IsNumber (inode_count w) j → j ≢ d → j ≢ k → SameObject (view w) (view new) j
  others_same j number away other = record {
    kind = kind-same j number;
    size = words j 1 number (omega arith) (λ is. absurd (other is));
    bytes = λ n lt. ap (λ base. view new (base + n)) (base-same j number) ∙ elim (cases_eq (inode (view w) j).kind 0) [
      | inl free ↦ absurd (omega (arith, lt, (a.rest.sound inodes j number).free 1 (omega arith) free))
      | inr used ↦ elim (a.rest.sound placed j (record { number = number; used = used })).place [
        | inl none ↦ absurd (omega (arith, lt, none.size))
        | inr room ↦ in_part j n (record { live = record { number = number; used = used }; level = room.part.level }) (omega (arith, lt, room.size)) (λ is. absurd (away is)) (λ is. absurd (other is))
      ]
    ];
  }

  -- from one directory to another
  empties : d ≢ k → Empties (view new) d (object (view w) d) o
  empties apart_dirs =
      let base = base-same d (from_live a).number in
      record {
        kind = kind-same d (from_live a).number;
        size = words d 1 (from_live a).number (omega arith) (λ is. absurd (apart_dirs is));
        zero = λ n lt below. ap (view new) (omega (arith, base)) ∙ cleared n lt (elim (a.rest.sound apart d k (from_owns a) a.owns apart_dirs) [
          | inl before ↦ inl (omega (arith, before, lt, from_ends a, (from_room a).size))
          | inr after ↦ inr (omega (arith, after, a.fits))
        ]);
        kept = λ n lt out.
            ap (λ x. view new (x + n)) base ∙ in_part d n (from_owns a) (omega (arith, lt, (from_room a).size)) (λ is. out) (λ is. absurd (apart_dirs is))
            ∙ sym (content-at (view w) (inode (view w) d).base (inode (view w) d).size n lt);
      }

  fills : d ≢ k → Fills (view new) k (object (view w) k) s i name
  fills apart_dirs =
      let base = base-same k a.owns.live.number in
      record {
        kind = kind-same k a.owns.live.number;
        size = grown;
        low = a.low;
        slot = λ n lt. ap (view new) (omega (arith, base)) ∙ filled n lt;
        kept = λ n lt out.
            ap (λ x. view new (x + n)) base ∙ in_part k n a.owns (omega (arith, lt, (to_room a).size)) (λ is. absurd (apart_dirs (sym is))) (λ is. out)
            ∙ sym (content-at (view w) (inode (view w) k).base (inode (view w) k).size n lt);
      }

  -- within one
  fills_within : d ≡ k → Fills (view new) d (without_slot (object (view w) d) o) s i name
  fills_within same =
      let base : (inode (view new) d).base ≡ (inode (view w) k).base = base-same d (from_live a).number ∙ ap (λ e. (inode (view w) e).base) same in
      let one : (inode (view w) d).base ≡ (inode (view w) k).base = ap (λ e. (inode (view w) e).base) same in
      let size : (inode (view w) d).size ≡ (inode (view w) k).size = ap (λ e. (inode (view w) e).size) same in
      record {
        kind = kind-same d (from_live a).number;
        size = ap (λ e. (inode (view new) e).size) same ∙ grown ∙ ap (λ x. max x (s + 256)) (sym size);
        low = omega (arith, a.low, size);
        slot = λ n lt. ap (view new) (omega (arith, base)) ∙ filled n lt;
        kept = λ n lt out. elim (beside_or o n) [
          | inl at ↦
              let off : ((inode (view w) d).base + o + (n - o) < (inode (view w) k).base + s) ⊎ ((inode (view w) k).base + s + 256 ≤ (inode (view w) d).base + o + (n - o)) =
              elim out [ inl before ↦ inl (omega (arith, at.0, before, one)) | inr past ↦ inr (omega (arith, at.0, past, one)) ] in
              ap (view new) (omega (arith, at.0, base, one)) ∙ cleared (n - o) (omega (arith, at.0, at.1)) off ∙ sym (zeros_in (object (view w) d) o n at.0 at.1)
          | inr off ↦
              ap (λ x. view new (x + n)) (base-same d (from_live a).number)
              ∙ in_part d n (from_owns a) (omega (arith, lt, (from_room a).size)) (λ is. off) (λ is. out)
              ∙ sym (content-at (view w) (inode (view w) d).base (inode (view w) d).size n lt) ∙ sym (kept_out (object (view w) d) o n off)
        ];
      }

  pub count_same : inode_count new ≡ inode_count w
  count_same = head 3 (omega arith)
    where
      head : (x : ℕ) → x < 512 → word new x ≡ word w x
      head x lt = elim m.moves.size [ inl kept ↦ ap (λ (img : List ℕ). word img x) kept.1 | inr more ↦ more.1.head x lt ] ∙ m.moves.links.slot.head x lt ∙ m.moves.links.clear.head x lt

  pub files_are : files new ≡ moved (files w) d o k s i name
  files_are = ap (objects (view new)) count_same ∙ elim (cases_eq d k) [
    | inr other ↦ moved_objects (view w) (view new) (inode_count w) d o k s i name (from_live a).number a.owns.live.number other (empties other) (fills other) others_same
    | inl same ↦
        moved_within_objects (view w) (view new) (inode_count w) d o s i name (from_live a).number (fills_within same) (λ j number away. others_same j number away (λ is. away (is ∙ sym same)))
        ∙ ap (λ e. moved (files w) d o e s i name) same
  ]

  -- ---- the tables

  size_cells : (e x : ℕ) → e ≤ 4 → page_at new e x ≡ page_at m.moves.linked e x
  size_cells e x le = elim m.moves.size [ inl kept ↦ ap (λ (img : List ℕ). page_at img e x) kept.1 | inr more ↦ more.1.cells e x le ]

  size_front : (x : ℕ) → x < 512 → word new x ≡ word m.moves.linked x
  size_front x lt = elim m.moves.size [ inl kept ↦ ap (λ (img : List ℕ). word img x) kept.1 | inr more ↦ more.1.head x lt ]

  size_length : length new ≡ length m.moves.linked
  size_length = elim m.moves.size [ inl kept ↦ ap length kept.1 | inr more ↦ more.1.size ]

  pub keeps : KeepsTables w new
  keeps = record {
    cells = λ e x le. size_cells e x le ∙ m.moves.links.slot.cells e x le ∙ m.moves.links.clear.cells e x le;
    head = λ x lt. size_front x lt ∙ m.moves.links.slot.head x lt ∙ m.moves.links.clear.head x lt;
    size = size_length ∙ m.moves.links.slot.size ∙ m.moves.links.clear.size;
  }

  pub tables_now : AreTables new
  tables_now = elim m.moves.size [ inl kept ↦ subst AreTables (sym kept.1) m.moves.links.slot.tables | inr more ↦ more.1.tables ]

  mapped_now : IsMappedInParts new (view new) (inode_count w)
  mapped_now p from none =
      keeps.cells 4 p (omega arith)
      ∙ a.rest.sound mapped p from (λ j owns inside. none j (owns_on j owns) (subst (λ y. IsIn y (p * 4096)) (sym (part-same j owns.live.number)) inside))

  -- ---- the rules

  on : (P : (ℕ → ℕ) → ℕ → Type 0) → P (view new) (inode_count w) → P (view new) (inode_count new)
  on P h = subst (P (view new)) (sym count_same) h

  pub moved_whole : IsWhole new
  moved_whole = record { tables = tables_now; mapped = on (IsMappedInParts new) mapped_now }

  space_now : HasSpace (view new) (inode_count new)
  space_now = on HasSpace (rebuilt_space rebuilt)

  module _ {t : Tree} (tree : OneTree (moved (files w) d o k s i name) t) where
    one_tree : OneTree (files new) t
    one_tree = subst (λ fs. OneTree fs t) (sym files_are) tree

    pub moved_sound : Sound new
    moved_sound entries = λ e x j le lt seen. tables_now.entries e x j le lt
    moved_sound once = λ e x f y le lf seen seen'. tables_now.once e x f y le lf
    moved_sound inodes = space_now.inodes
    moved_sound placed = space_now.placed
    moved_sound apart = space_now.apart
    moved_sound tails = space_now.tails
    moved_sound mapped = moved_whole.mapped
    moved_sound headers = space_now.headers
    moved_sound rest = space_now.rest
    moved_sound slots = (forest_rules new t one_tree).0
    moved_sound names = (forest_rules new t one_tree).1
    moved_sound named = (forest_rules new t one_tree).2
    moved_sound reached = (forest_rules new t one_tree).3

    pub moved_settled : IsShut new → IsAtRest new
    moved_settled shut = record { head = head_over a.rest.head keeps.head keeps.size shut; sound = moved_sound; shut = shut; tables = tables_now }
