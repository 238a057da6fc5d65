-- A file was cut to nothing: the rules, the file and the tree after that.
use Rattle.std.proofs.Common.{◌≡◌, ◌≢◌, ◌⊎◌, ℕ, zero, suc, ◌+◌, ◌-◌, ◌*◌, ◌/◌, ◌%◌, ◌^◌, ◌<◌, ◌≤◌, true, false, List, [], ◌∷◌, length, refl, sym, ap, subst, ◌∙◌, inl, inr, arith}
use Rattle.std.specs.Prelude.{slice_index, slice_set, Option, if◌then◌else◌}
use Rattle.std.proofs.lemmas.Bool.{and_right, cases_eq, cases_lt, lt-ltb, ne_eqb, or_left}
use Rattle.ct_base.specs.declared.inode.Inode.{Inode}
use Rattle.ct_base.specs.Headers.{HeadersStand, StandFor, is_one, without}
use Rattle.ct_base.specs.Inode.{has_part, inode, inode_word, IsIn, IsNumber, live_parts, number_of, part, part_bytes, part_end}
use Rattle.ct_base.specs.Objects.{Object, object, objects}
use Rattle.ct_base.specs.Rules.{apart, AreEntries, AreNamed, AreNamesApart, ArePlaced, AreReached, entries, HasRoom, headers, HoldsAt, inodes, IsMappedInParts, mapped, named, names, number, once, Owns, part_of, placed, reached, rest, Rule, slots, Sound, tails}
use Rattle.ct_base.specs.Settled.{IsShut}
use Rattle.ct_base.specs.View.{view, inode_count}
use Rattle.ct_base.specs.Walk.{word, page_at, AreTables}
use Rattle.ct_base.specs.Words.{Rewrites}
use Rattle.ct_grow.specs.Grown.{IsReady}
use Rattle.ct_grow.proofs.Heads.{path_bounds}
use Rattle.ct_grow.proofs.Listed.{stand_same}
use Rattle.ct_grow.proofs.Moved.{space_of}
use Rattle.ct_grow.proofs.Readied.{stands_now}
use Rattle.ct_header.specs.Drafted.{IsInHeader}
use Rattle.ct_inode.proofs.Rewritten.{view_outside, word_inside, word_outside}
use Rattle.ct_parts.proofs.Lists.{base-is}
use Rattle.ct_state.proofs.Bytes.{little-same, objects-cases, objects-in}
use Rattle.ct_state.proofs.Owners.{owner_one}
use Rattle.ct_state.proofs.Rebuilt.{live_parts-gone, rebuilt_objects, vacated_mapped, vacated_space, Vacates, vacates_rebuilt}
use Rattle.ct_state.proofs.Write.{HasSpace}
use Rattle.ct_words.proofs.Shown.{little-shown}
use Rattle.ct_words.specs.Shown.{shown_word}
use Rattle.ct_base.specs.State.{SameState}
use Rattle.ct_frames.specs.Agrees.{Agrees}
use Rattle.ct_frames.specs.Free.{FreePages}
use Rattle.ct_stage.proofs.Bridge.{laid_whole}
use Rattle.ct_state.specs.Alike.{IsWhole}
use Rattle.ct_state.proofs.Written.{Written, entries_stay, names_apart_stay, named_stay, reached_stay}
use Rattle.ct_tree.specs.Content.{resized}
use Rattle.ct_tree.specs.Lands.{files}
use Rattle.ct_tree.specs.Stands.{IsFile}
use Rattle.ct_tree.proofs.Ordered.{resized_length}
use Rattle.ct_commit.proofs.Emptying.{Empties as Ends, empty_alike, empty_byte, empty_length, empty_page, empty_root, empty_shut, empty_slot, empty_whole, empty_word}
use Rattle.ct_write.proofs.Reaching.{fresh_agree}
use Rattle.ct_write.proofs.Sizing.{byte-word}
use Rattle.ct_write.proofs.Turning.{Turns, bare_spares, empty_phase, record_phase}
use Rattle.ct_write.proofs.Lengthening.{inode_there}
use Rattle.ct_write.specs.Recorded.{IsBare}
use Rattle.ct_commit.specs.Closed.{IsStateOr}
use Rattle.ct_commit.specs.Made.{Spares}
use Rattle.ct_pm.specs.Images.{History}
use Rattle.ct_pm.specs.Device.{LeavesOnly, MakesOnly}
use Rattle.ct_pm.specs.Phase.{Phase}
use Rattle.ct_cut.specs.Cut.{CanCut, IsCutOrNot, IsEmptied, IsExtent, IsShorter}
use Rattle.ct_cut.specs.Emptied.{Emptied}
use Rattle.ct_cut.specs.GivenUp.{GivesUp}
use Rattle.ct_cut.specs.Readied.{Readied}
use Rattle.ct_cut.proofs.Shortening.{cut_room}

-- a byte of another partition is none that changes
elsewhere : {w0 : List ℕ} (new : List ℕ) {i : ℕ} → CanCut w0 i 0 → ((v : ℕ) → (IsExtent i v → ⊥) → (IsInHeader (part_of (view w0) i) v → ⊥) → (IsIn (part_of (view w0) i) v → ⊥) → view new v ≡ view w0 v)
    → (j k : ℕ) → j ≢ i → Owns (view w0) (inode_count w0) j → k < part_bytes (inode (view w0) j).level → view new ((inode (view w0) j).base + k) ≡ view w0 ((inode (view w0) j).base + k)
elsewhere {w0} new {i} can stays j k other o lt =
    let space = space_of w0 can.ready in
    let room = cut_room can in
    let few : i ≤ 1048576 = omega (arith, can.live.number.to, can.ready.inodes.1) in
    let low : 10 * 2 ^ 39 ≤ (inode (view w0) j).base = elim (space.placed j o.live).place [ inl none ↦ absurd (omega (arith, none.level, o.level)) | inr h ↦ h.part.low ] in
    stays ((inode (view w0) j).base + k) (λ e. omega (arith, e.1, low, few)) (λ h. omega (arith, h.to, low, (path_bounds (part_of (view w0) i) room.part h.address h.on_path).1)) (λ inside. elim (space.apart j i o (record { live = can.live; level = room.part.level }) other) [
      | inl before ↦ omega (arith, before, inside.from, lt)
      | inr after ↦ omega (arith, after, inside.to)
    ])

-- a file that was cut to nothing
pub record Done (w0 new : List ℕ) (i : ℕ) : Type 0 where
  pub can : CanCut w0 i 0
  pub vacates : Vacates (view w0) (view new) (inode_count w0) i
  pub emptied : IsEmptied w0 new i
  pub kind : (inode (view new) i).kind ≡ (inode (view w0) i).kind

-- so is each image that has what a cut to nothing does
module _ {w0 new : List ℕ} {i : ℕ} (can : CanCut w0 i 0) (e : IsEmptied w0 new i) where
  low_stays : (v : ℕ) → v < 2 ^ 39 → (IsExtent i v → ⊥) → view new v ≡ view w0 v
  low_stays v lt extent =
      let room = cut_room can in
      e.others v extent (λ h. omega (arith, lt, h.from, (path_bounds (part_of (view w0) i) room.part h.address h.on_path).0)) (λ inside. omega (arith, lt, inside.from, room.part.low))

  word_left : (j k : ℕ) → IsNumber (inode_count w0) j → k < 8 → (j ≡ i → (k < 1) ⊎ (4 ≤ k)) → inode_word (view new) j k ≡ inode_word (view w0) j k
  word_left j k number lt off =
      let to = number.to in
      let most = can.ready.inodes.1 in
      little-same (view w0) (view new) (64 * j + 8 * k) (64 * j + 8 * k) 8 (λ m small. low_stays (64 * j + 8 * k + m) (omega arith) (λ inside. elim (cases_eq j i) [
        | inl here ↦ elim (off here) [ inl first ↦ omega (arith, inside.0, first, here) | inr later ↦ omega (arith, inside.1, later, here) ]
        | inr other ↦ omega (arith, inside.0, inside.1, other)
      ]))

  others_left : (j : ℕ) → IsNumber (inode_count w0) j → j ≢ i → inode (view new) j ≡ inode (view w0) j
  others_left j number other =
      let w0 = word_left j 0 number (omega arith) (λ here. absurd (other here)) in
      let w1 = word_left j 1 number (omega arith) (λ here. absurd (other here)) in
      let w2 = word_left j 2 number (omega arith) (λ here. absurd (other here)) in
      let w3 = word_left j 3 number (omega arith) (λ here. absurd (other here)) in
      λ t. record { kind = w0 t; size = w1 t; base = w2 t; level = w3 t }

  kind_left : (inode (view new) i).kind ≡ (inode (view w0) i).kind
  kind_left = word_left i 0 can.live.number (omega arith) (λ here. inl (omega arith))

  no_part : has_part (inode (view new) i) ≡ false
  no_part = and_right _ _ (ap (λ l. Rattle.std.specs.Prelude.nat_le l 9) e.level)

  pub vacates_left : Vacates (view w0) (view new) (inode_count w0) i
  vacates_left =
      let space = space_of w0 can.ready in
      let owns : Owns (view w0) (inode_count w0) i = record { live = can.live; level = (cut_room can).part.level } in
      let gone = live_parts-gone (view w0) (view new) (inode_count w0) i space.apart no_part others_left owns (inode_count w0) (omega arith) in
      let counted = subst (λ (c : ℕ). HeadersStand (view new) (live_parts (view new) c)) e.inodes e.headers in
      record {
        space = space;
        number = can.live.number;
        words = λ j k number other lt. word_left j k number lt (λ here. absurd (other here));
        lawful =
            let was = space.inodes i can.live.number in
            record {
              kind = subst (λ (k : ℕ). k ≤ 2) (sym kind_left) was.kind;
              free = λ k lt z. absurd (can.live.used (sym kind_left ∙ z));
              spare = λ k four lt. word_left i k can.live.number lt (λ here. inr four) ∙ was.spare k four lt;
              root = λ first. kind_left ∙ was.root first;
            };
        none = λ used. record { level = e.level; base = e.base; size = e.size };
        past = λ j k other o from to. elsewhere new can e.others j k other o to;
        headers = subst (λ (t : Rattle.std.proofs.Common.Bool). HeadersStand (view new) (if t then without (part_of (view w0) i) (live_parts (view w0) (inode_count w0)) else live_parts (view w0) (inode_count w0))) (sym (Rattle.ct_grow.proofs.Growing.has_of (view w0) (inode_count w0) i owns)) (subst (λ ps. HeadersStand (view new) ps) gone counted);
        rest = λ v lt out. low_stays v lt (λ inside. elim out [ inl l ↦ omega (arith, inside.0, l, can.live.number.from) | inr h ↦ omega (arith, inside.1, h, can.live.number.to) ]) ∙ space.rest v lt out;
      }

  pub done_left : Done w0 new i
  done_left = record { can = can; vacates = vacates_left; emptied = e; kind = kind_left }

-- Both sides were made ready, and the record was made.
pub record Empties (w0 w1 w2 : List ℕ) (i : ℕ) : Type 0 where
  pub can : CanCut w0 i 0
  pub readied : Readied w0 w1 (inode (view w0) i)
  pub emptied : Emptied w1 w2 i

module _ {w0 w1 w2 : List ℕ} {i : ℕ} (x : Empties w0 w1 w2 i) where
  abbrev f : Inode
  f = inode (view w0) i

  abbrev middle : List ℕ
  middle = x.emptied.middle

  room : HasRoom (inode (view w0) i)
  room = cut_room x.can

  owns : Owns (view w0) (inode_count w0) i
  owns = record { live = x.can.live; level = room.part.level }

  few : i ≤ 1048576
  few = omega (arith, x.can.live.number.to, x.can.ready.inodes.1)

  r : Rewrites w1 middle (64 * i + 8) (0 ∷ 0 ∷ 15 ∷ [])
  r = x.emptied.extent

  aligned : (64 * i + 8) % 8 ≡ 0
  aligned = omega arith

  g : GivesUp middle w2 (part_of (view w0) i)
  g = subst (λ b. GivesUp x.emptied.middle w2 (part (inode b i))) x.readied.seen x.emptied.gives

  -- bytes
  mid_byte : (v : ℕ) → (IsExtent i v → ⊥) → view middle v ≡ view w0 v
  mid_byte v off = view_outside r aligned v (elim (cases_lt v (64 * i + 8)) [ inl before ↦ inl before | inr from ↦ elim (cases_lt v (64 * i + 32)) [ inl lt ↦ absurd (off (from, lt)) | inr past ↦ inr (omega (arith, past)) ] ])
      ∙ ap (λ b. b v) x.readied.seen

  low_byte : (v : ℕ) → v < 2 ^ 39 → view w2 v ≡ view middle v
  low_byte v lt = g.others v (λ h. omega (arith, lt, h.from, (path_bounds (part_of (view w0) i) room.part h.address h.on_path).0)) (λ inside. omega (arith, lt, inside.from, room.part.low))

  now_byte : (v : ℕ) → (IsExtent i v → ⊥) → (IsInHeader (part_of (view w0) i) v → ⊥) → (IsIn (part_of (view w0) i) v → ⊥) → view w2 v ≡ view w0 v
  now_byte v extent header inside = g.others v header inside ∙ mid_byte v extent

  now_head : (w : ℕ) → w < 512 → word w2 w ≡ word w0 w
  now_head w lt = g.head w lt ∙ r.head w lt ∙ x.readied.head w lt

  -- inodes
  word_stays : (j k : ℕ) → IsNumber (inode_count w0) j → k < 8 → (j ≡ i → (k < 1) ⊎ (4 ≤ k)) → inode_word (view w2) j k ≡ inode_word (view w0) j k
  word_stays j k number lt off =
      let to = number.to in
      let most = x.can.ready.inodes.1 in
      little-same (view w0) (view w2) (64 * j + 8 * k) (64 * j + 8 * k) 8 (λ m small. low_byte (64 * j + 8 * k + m) (omega arith) ∙ mid_byte (64 * j + 8 * k + m) (λ e. elim (cases_eq j i) [
        | inl here ↦ elim (off here) [ inl first ↦ omega (arith, e.0, first, here) | inr later ↦ omega (arith, e.1, later, here) ]
        | inr other ↦ omega (arith, e.0, e.1, other)
      ]))

  word_is : (k : ℕ) → k < 3 → inode_word (view w2) i (k + 1) ≡ slice_index (0 ∷ 0 ∷ 15 ∷ []) k % 2 ^ 64
  word_is k lt =
      let at : 64 * i + 8 * (k + 1) ≡ 64 * i + 8 + 8 * k = omega arith in
      little-same (view middle) (view w2) (64 * i + 8 * (k + 1)) (64 * i + 8 * (k + 1)) 8 (λ m small. low_byte (64 * i + 8 * (k + 1) + m) (omega (arith, few)))
      ∙ little-shown middle (64 * i + 8 * (k + 1)) (omega arith) (or_left _ _ (lt-ltb (64 * i + 8 * (k + 1)) 1099511627776 (omega (arith, few))))
      ∙ ap (λ v. shown_word middle v) at ∙ ap (λ v. v % 2 ^ 64) (word_inside r aligned k (omega (arith, lt)))

  kind_now : (inode (view w2) i).kind ≡ f.kind
  kind_now = word_stays i 0 x.can.live.number (omega arith) (λ here. inl (omega arith))

  size_now : (inode (view w2) i).size ≡ 0
  size_now = word_is 0 (omega arith)

  base_now : (inode (view w2) i).base ≡ 0
  base_now = word_is 1 (omega arith)

  level_now : (inode (view w2) i).level ≡ 15
  level_now = word_is 2 (omega arith)

  -- headers
  one : is_one (live_parts (view w0) (inode_count w0)) f.level (number_of (part_of (view w0) i)) ≡ true
  one = owner_one (view w0) (inode_count w0) f.level (number_of (part_of (view w0) i)) (record {
    inode_number = i;
    from = x.can.live.number.from;
    to = x.can.live.number.to;
    has = had;
    level = refl;
    base = base-is (part_of (view w0) i) room.part;
  })
    where
      had : has_part (inode (view w0) i) ≡ true
      had = Rattle.ct_grow.proofs.Growing.has_of (view w0) (inode_count w0) i owns

  stands : StandFor (view w2) (without (part_of (view w0) i) (live_parts (view w0) (inode_count w0)))
  stands =
      g.stand (live_parts (view w0) (inode_count w0))
      (stand_same w0 middle (live_parts (view w0) (inode_count w0)) (λ v low high. mid_byte v (λ e. omega (arith, e.1, low, few))) (stands_now x.can.ready)) one

  space : HasSpace (view w0) (inode_count w0)
  space = space_of w0 x.can.ready

  other_byte : (j k : ℕ) → j ≢ i → Owns (view w0) (inode_count w0) j → k < part_bytes (inode (view w0) j).level → view w2 ((inode (view w0) j).base + k) ≡ view w0 ((inode (view w0) j).base + k)
  other_byte j k other o lt = elsewhere w2 x.can now_byte j k other o lt

  pub vacates : Vacates (view w0) (view w2) (inode_count w0) i
  vacates = record {
    space = space;
    number = x.can.live.number;
    words = λ j k number other lt. word_stays j k number lt (λ here. absurd (other here));
    lawful =
        let was = space.inodes i x.can.live.number in
        record {
          kind = subst (λ (k : ℕ). k ≤ 2) (sym kind_now) was.kind;
          free = λ k lt z. absurd (x.can.live.used (sym kind_now ∙ z));
          spare = λ k four lt. word_stays i k x.can.live.number lt (λ here. inr four) ∙ was.spare k four lt;
          root = λ first. kind_now ∙ was.root first;
        };
    none = λ used. record { level = level_now; base = base_now; size = size_now };
    past = λ j k other o from to. other_byte j k other o to;
    headers = subst (λ (t : Rattle.std.proofs.Common.Bool). HeadersStand (view w2) (if t then without (part_of (view w0) i) (live_parts (view w0) (inode_count w0)) else live_parts (view w0) (inode_count w0))) (sym (Rattle.ct_grow.proofs.Growing.has_of (view w0) (inode_count w0) i owns)) stands.stand;
    rest = λ v lt out. low_byte v lt ∙ mid_byte v (λ e. elim out [ inl l ↦ omega (arith, e.0, l, x.can.live.number.from) | inr h ↦ omega (arith, e.1, h, x.can.live.number.to) ]) ∙ space.rest v lt out;
  }

  now_inodes : inode_count w2 ≡ inode_count w0
  now_inodes = now_head 3 (omega arith)

  pub is_emptied : IsEmptied w0 w2 i
  is_emptied = record {
    size = size_now;
    base = base_now;
    level = level_now;
    gone = g.gone;
    headers = subst (λ (c : ℕ). HeadersStand (view w2) (live_parts (view w2) c)) (sym now_inodes) (vacated_space vacates).headers;
    others = now_byte;
    inodes = now_inodes;
    unmapped = g.unmapped;
    pages = λ q away off. g.pages q away off ∙ r.cells 4 q (omega arith) ∙ x.readied.pages q away;
    staged = λ v from to.
        g.staged v from to
        ∙ (byte-word middle v (omega (arith, to)) ∙ ap (λ y. y / 256 ^ (v % 4096 % 8) % 256) (word_outside r aligned (8 * (v / 8)) (inr (omega (arith, from, few)))) ∙ sym (byte-word w1 v (omega (arith, to))))
        ∙ x.readied.others v (omega (arith, to)) (λ slot. omega (arith, slot, from));
    roots = λ k from to. g.roots k from to ∙ r.cells 1 k (omega arith) ∙ x.readied.roots k from to;
    head = now_head;
    length = g.size ∙ r.size ∙ x.readied.size;
  }

  pub done : Done w0 w2 i
  done = record { can = x.can; vacates = vacates; emptied = is_emptied; kind = kind_now }

-- the slot is emptied
pub done_empty : {w0 w2 w3 : List ℕ} {i : ℕ} → Ends w2 w3 2 → Done w0 w2 i → Done w0 w3 i
done_empty {w0} {w2} {w3} {i} y d =
    let alike = empty_alike y in
    let e = d.emptied in
    record {
      can = d.can;
      vacates = subst (λ b. Vacates (view w0) b (inode_count w0) i) (sym alike.bytes) d.vacates;
      kind = ap (λ b. (inode b i).kind) alike.bytes ∙ d.kind;
      emptied = record {
        size = ap (λ b. (inode b i).size) alike.bytes ∙ e.size;
        base = ap (λ b. (inode b i).base) alike.bytes ∙ e.base;
        level = ap (λ b. (inode b i).level) alike.bytes ∙ e.level;
        gone = λ v inside. ap (λ b. b v) alike.bytes ∙ e.gone v inside;
        headers = subst (λ b. HeadersStand b (live_parts b (inode_count w3))) (sym alike.bytes) (subst (λ (c : ℕ). HeadersStand (view w2) (live_parts (view w2) c)) (sym alike.inodes) e.headers);
        others = λ v extent header inside. ap (λ b. b v) alike.bytes ∙ e.others v extent header inside;
        inodes = alike.inodes ∙ e.inodes;
        unmapped = λ q inside. empty_page y q (λ slot. omega (arith, slot, inside.from, (cut_room d.can).part.low)) ∙ e.unmapped q inside;
        pages = λ q away off. empty_page y q away ∙ e.pages q away off;
        staged = λ v from to. empty_byte y v (omega (arith, to)) (λ slot. omega (arith, slot, from)) ∙ e.staged v from to;
        roots = λ k from to. empty_root y k (λ z. omega (arith, z, from)) ∙ e.roots k from to;
        head = λ w lt. empty_word y w (omega arith) ∙ e.head w lt;
        length = empty_length y ∙ e.length;
      };
    }

module _ {w0 new : List ℕ} {i : ℕ} (d : Done w0 new i) where
  unmapped : IsMappedInParts new (view new) (inode_count new)
  unmapped = subst (λ (c : ℕ). IsMappedInParts new (view new) c) (sym d.emptied.inodes) (vacated_mapped d.vacates w0 new (d.can.ready.rules mapped (omega arith)) page (λ p owns inside. d.emptied.unmapped p inside))
    where
      page : (p : ℕ) → 10 * 2 ^ 27 ≤ p → (page_at new 4 p ≡ page_at w0 4 p) ⊎ (page_at new 4 p ≡ 0)
      page p low = elim (cases_lt (p * 4096) (part_of (view w0) i).base) [
        | inl before ↦ inl (d.emptied.pages p (λ slot. omega (arith, slot, low)) (λ inside. omega (arith, inside.from, before)))
        | inr from ↦ elim (cases_lt (p * 4096) (part_end (part_of (view w0) i))) [
          | inl lt ↦ inr (d.emptied.unmapped p (record { from = from; to = lt }))
          | inr past ↦ inl (d.emptied.pages p (λ slot. omega (arith, slot, low)) (λ inside. omega (arith, inside.to, past)))
        ]
      ]

  pub done_whole : AreTables new → IsWhole new
  done_whole tables = record { tables = tables; mapped = unmapped }

  space_now : HasSpace (view new) (inode_count new)
  space_now = subst (λ (c : ℕ). HasSpace (view new) c) (sym d.emptied.inodes) (vacated_space d.vacates)

  pub done_placed : ArePlaced (view new) (inode_count new)
  done_placed = space_now.placed

  rules_now : AreTables new → (r : Rule) → number r ≤ 16 → HoldsAt new r
  rules_now t entries le = λ d x j ld lt seen. t.entries d x j ld lt
  rules_now t once le = λ d x e y ld lf seen seen'. t.once d x e y ld lf
  rules_now t inodes le = space_now.inodes
  rules_now t placed le = space_now.placed
  rules_now t apart le = space_now.apart
  rules_now t tails le = space_now.tails
  rules_now t mapped le = unmapped
  rules_now t headers le = space_now.headers
  rules_now t rest le = space_now.rest
  rules_now t slots le = absurd (omega arith)
  rules_now t names le = absurd (omega arith)
  rules_now t named le = absurd (omega arith)
  rules_now t reached le = absurd (omega arith)

  pub done_ready : AreTables new → IsShut new → word new 16898 ≡ 0 → IsReady new
  done_ready tables shut unstaged = record {
    tables = tables;
    shut = shut;
    unstaged = unstaged;
    rules = rules_now tables;
    inodes = (omega (arith, d.emptied.inodes, d.can.ready.inodes.0), omega (arith, d.emptied.inodes, d.can.ready.inodes.1));
  }

  pub object_emptied : Written (objects (view w0) (inode_count w0)) (objects (view new) (inode_count w0)) i
  object_emptied =
      let number = d.can.live.number in
      record {
        others = λ j other. elim (objects-cases (view w0) (inode_count w0) j) [
          | inl k ↦ rebuilt_objects (vacates_rebuilt d.vacates) j (ne_eqb j i other) (λ o lt. inside j o k.0 other lt)
          | inr k ↦ elim (objects-cases (view new) (inode_count w0) j) [ inl l ↦ absurd (k.0 l.0) | inr l ↦ l.1 ∙ sym k.1 ]
        ];
        was = ap (λ (o : Object). o.kind) (objects-in (view w0) (inode_count w0) i number) ∙ d.can.file;
        is = ap (λ (o : Object). o.kind) (objects-in (view new) (inode_count w0) i number) ∙ d.kind ∙ d.can.file;
      }
    where
      -- bytes below a size lie in a partition
      inside : (j k : ℕ) → IsNumber (inode_count w0) j → j ≢ i → k < (inode (view w0) j).size → view new ((inode (view w0) j).base + k) ≡ view w0 ((inode (view w0) j).base + k)
      inside j k number other lt = elim (cases_eq (inode (view w0) j).kind 0) [
        | inl unused ↦ absurd (omega (arith, lt, ((space_of w0 d.can.ready).inodes j number).free 1 (omega arith) unused))
        | inr used ↦ elim ((space_of w0 d.can.ready).placed j (record { number = number; used = used })).place [
          | inl none ↦ absurd (omega (arith, lt, none.size))
          | inr r ↦ elsewhere new d.can d.emptied.others j k other (record { live = record { number = number; used = used }; level = r.part.level }) (omega (arith, lt, r.size))
        ]
      ]

  back : (P : (ℕ → ℕ) → ℕ → Type 0) → P (view new) (inode_count w0) → P (view new) (inode_count new)
  back P h = subst (λ k. P (view new) k) (sym d.emptied.inodes) h

  pub done_sound : AreTables new → Sound w0 → Sound new
  done_sound t sound entries = rules_now t entries (omega arith)
  done_sound t sound once = rules_now t once (omega arith)
  done_sound t sound inodes = rules_now t inodes (omega arith)
  done_sound t sound placed = rules_now t placed (omega arith)
  done_sound t sound apart = rules_now t apart (omega arith)
  done_sound t sound tails = rules_now t tails (omega arith)
  done_sound t sound mapped = rules_now t mapped (omega arith)
  done_sound t sound headers = rules_now t headers (omega arith)
  done_sound t sound rest = rules_now t rest (omega arith)
  done_sound t sound slots = back (λ b k. AreEntries (objects b k)) (entries_stay object_emptied (sound slots))
  done_sound t sound names = back (λ b k. AreNamesApart (objects b k)) (names_apart_stay object_emptied (sound names))
  done_sound t sound named = back (λ b k. AreNamed (objects b k)) (named_stay object_emptied (sound named))
  done_sound t sound reached = back (λ b k. AreReached (objects b k)) (reached_stay object_emptied (sound reached))

  -- the file is empty
  pub done_file : (was : List ℕ) → IsFile (files w0 i) was → IsFile (files new i) (resized 0 was)
  done_file was had =
      let number = d.can.live.number in
      let total : length (resized 0 was) ≡ 0 = resized_length 0 was in
      let is : files new i ≡ object (view new) i = ap (λ k. objects (view new) k i) d.emptied.inodes ∙ objects-in (view new) (inode_count w0) i number in
      subst (λ o. IsFile o (resized 0 was)) (sym is) (record { kind = d.kind ∙ d.can.file; size = d.emptied.size ∙ sym total; all = λ k lt. absurd (omega (arith, lt, total)) })

-- the record turns the words
pub emptying_turns : {w0 w1 : List ℕ} {i : ℕ} → CanCut w0 i 0 → Readied w0 w1 (inode (view w0) i) → SameState w0 w1 → Turns w0 w1 (λ after. Emptied w1 after i)
emptying_turns {w0} {w1} {i} can ready still = record {
  still = still;
  closed = record {
    shut = ready.laid.shut;
    whole = laid_whole ready.laid;
    placed = subst (λ b. ArePlaced b (inode_count w1)) (sym ready.seen) (subst (λ (k : ℕ). ArePlaced (view w0) k) (sym (ready.head 3 (omega arith))) (can.ready.rules placed (omega arith)));
  };
  after = λ w2 e shut.
      let d = done (record { can = can; readied = ready; emptied = e }) in
      record { shut = shut; whole = done_whole d e.gives.tables; placed = done_placed d };
  from = λ w2 e q high. from w2 e q high;
}
  where
    from : (w2 : List ℕ) → Emptied w1 w2 i → (q : ℕ) → 10 * 2 ^ 27 ≤ q → (p : ℕ) × (2 * 2 ^ 27 ≤ p) × (page_at w1 4 p ≡ page_at w2 4 q)
    from w2 e q high =
        let p = part (inode (view w1) i) in
        elim (cases_lt (q * 4096) (part (inode (view w1) i)).base) [
          | inl before ↦ (q, omega (arith, high), sym (e.gives.pages q (λ slot. omega (arith, slot, high)) (λ inside. omega (arith, inside.from, before)) ∙ e.extent.cells 4 q (omega arith)))
          | inr from_q ↦ elim (cases_lt (q * 4096) (part_end (part (inode (view w1) i)))) [
            | inl lt ↦ (2 * 2 ^ 27, omega arith, ready.can.unmapped (2 * 2 ^ 27) (omega arith) ∙ sym (e.gives.unmapped q (record { from = from_q; to = lt })))
            | inr past ↦ (q, omega (arith, high), sym (e.gives.pages q (λ slot. omega (arith, slot, high)) (λ inside. omega (arith, inside.to, past)) ∙ e.extent.cells 4 q (omega arith)))
          ]
        ]

pub emptied_agrees : {old new : List ℕ} {i : ℕ} {frames : FreePages} → Emptied old new i → Agrees old frames → Agrees new frames
emptied_agrees e = fresh_agree (e.gives.head 2 (omega arith) ∙ e.extent.head 2 (omega arith)) (λ q f. e.gives.fresh q (λ d y le is. f d y le (sym (e.extent.cells d y le) ∙ is)))
    (λ q f d y le is. e.gives.reached q f d y le (e.extent.cells d y le ∙ is))

-- ---- as the functions have it

module _ {w0 w1 : List ℕ} {i : ℕ} {start mid : Option History} (can : CanCut w0 i 0) (ready : Readied w0 w1 (inode (view w0) i)) (before : Phase (SameState w0) 0 start mid w1) where
  turns : Turns w0 w1 (λ after. Emptied w1 after i)
  turns = emptying_turns can ready before.reads.has

  after_is : (after : List ℕ) → Emptied w1 after i → IsEmptied w0 after i
  after_is after e = is_emptied (record { can = can; readied = ready; emptied = e })

  pub empty_there : page_at w1 4 (64 * i / 4096) ≢ 0
  empty_there none = inode_there w0 i can.ready can.live (sym (ready.pages (64 * i / 4096) (λ slot. omega (arith, slot, can.live.number.to, can.ready.inodes.1))) ∙ none)

  -- no word that the record may name lies on a page of a live file
  pub empty_spares : Spares w1 (λ after. Emptied w1 after i) (IsBare w1)
  empty_spares = bare_spares turns

  -- up to the end of the record
  pub empty_told : {now : List ℕ} {told : Option History} → Phase (IsStateOr w1 (λ after. Emptied w1 after i)) 5111 mid told now → Phase (IsStateOr w0 (λ after. IsEmptied w0 after i)) 5111 start told now
  empty_told phase = record_phase turns (λ after. IsEmptied w0 after i) after_is before phase

  module _ {w2 : List ℕ} (e : Emptied w1 w2 i) (shut : IsShut w2) where
    -- and while the slot is emptied
    pub empty_end : {now : List ℕ} {later told : Option History} → Phase (IsStateOr w0 (λ after. IsEmptied w0 after i)) 5111 start later w2 → LeavesOnly later told (λ image. (image ≡ w2) ⊎ (image ≡ slice_set w2 16898 0)) → (now ≡ w2) ⊎ (now ≡ slice_set w2 16898 0)
        → MakesOnly (λ at put. (at ≡ 16898) × (put ≡ 0)) later told → Phase (IsStateOr w0 (λ after. IsEmptied w0 after i)) 5111 start told now
    empty_end phase images reads made = empty_phase turns (λ after. IsEmptied w0 after i) after_is e shut phase images reads made

    module _ {w3 : List ℕ} (is : w3 ≡ slice_set w2 16898 0) where
      ends : Ends w2 w3 2
      ends = record { closed = turns.after w2 e shut; from = omega arith; to = omega arith; is = is }

      pub last_done : Done w0 w3 i
      last_done = done_empty ends (done (record { can = can; readied = ready; emptied = e }))

      pub last_ready : IsReady w3
      last_ready = done_ready last_done (empty_whole ends).tables (empty_shut ends) (empty_slot ends)

      pub last_sound : Sound w0 → Sound w3
      last_sound = done_sound last_done (empty_whole ends).tables

pub cut_phase : {w0 now : List ℕ} {i : ℕ} {start told : Option History} (len : ℕ) → (len ≡ 0 → ⊥) → Phase (IsStateOr w0 (λ after. IsShorter w0 after i len)) 5111 start told now → Phase (IsCutOrNot w0 i len) 5111 start told now
cut_phase zero some phase = absurd (some refl)
cut_phase (suc len) some phase = phase
