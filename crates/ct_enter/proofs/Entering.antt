-- The words of a new entry: what the image stands for once they are there.
use Rattle.std.proofs.Common.{◌≡◌, ◌≢◌, ℕ, zero, suc, ◌+◌, ◌-◌, ◌*◌, ◌/◌, ◌%◌, ◌^◌, ◌<◌, ◌≤◌, true, List, length, get_or, refl, sym, ap, ◌∙◌, subst, ◌⊎◌, inl, inr, arith}
use Rattle.std.specs.Prelude.{slice_index, max, nat_lt, nat_le}
use Rattle.std.proofs.Math.Nat.{pow-le-pow_right, div-add-mod, mul_assoc}
use Rattle.std.proofs.lemmas.Bool.{cases_lt, or_left, or_right, and_from, lt-ltb, le-leb}
use Rattle.ct_base.specs.declared.inode.Inode.{Inode}
use Rattle.ct_base.specs.Inode.{IsNumber, inode, inode_word, part_bytes}
use Rattle.ct_base.specs.Objects.{Object}
use Rattle.ct_base.specs.Slots.{bytes_from}
use Rattle.ct_base.specs.Rules.{HasRoom, inodes, placed, apart, tails, headers, rest, mapped}
use Rattle.ct_base.specs.View.{is_seen, view, inode_count}
use Rattle.ct_base.specs.Walk.{word, page_at}
use Rattle.ct_base.specs.Words.{word_at}
use Rattle.ct_dir.specs.Packed.{slot_words}
use Rattle.ct_dir.proofs.Held.{slot_high}
use Rattle.ct_dir.proofs.Texts.{length-slot_words}
use Rattle.ct_dir.proofs.Written.{IsWritten, is_name-length, slot_words-fit, written_inode, written_length, written_name, written_padding, written_used}
use Rattle.ct_inode.specs.Drafted.{inode_words}
use Rattle.ct_inode.specs.Live.{KeepsLive}
use Rattle.ct_inode.proofs.Loaded.{kind_none, word_shown}
use Rattle.ct_inode.proofs.Rewritten.{inode_put, view_inside, view_outside, word_inside}
use Rattle.ct_state.proofs.Bytes.{little-same, objects-in}
use Rattle.ct_state.proofs.Created.{Creates}
use Rattle.ct_state.proofs.Entry.{IsFilled, MakesEntry}
use Rattle.ct_state.proofs.Write.{HasSpace}
use Rattle.ct_call.specs.Placed.{empty_inode}
use Rattle.ct_enter.specs.Entry.{IsSpot, IsFreeInode, WritesEntry, KeepsPart}
use Rattle.ct_commit.specs.Rest.{IsAtRest, KeepsTables}

-- a partition's bytes are looked at
seen_part : (v : ℕ) → 10 * 2 ^ 39 ≤ v → v < 2 ^ 48 → is_seen v ≡ true
seen_part v low high = or_right (nat_lt v (2 ^ 40)) _ (and_from (nat_le (10 * 2 ^ 39) v) (nat_lt v (2 ^ 48)) (le-leb (10 * 2 ^ 39) v low) (lt-ltb v (2 ^ 48) high))

seen_low : (v : ℕ) → v < 2 ^ 40 → is_seen v ≡ true
seen_low v low = or_left (nat_lt v (2 ^ 40)) _ (lt-ltb v (2 ^ 40) low)

-- ---- a place for a new entry

module _ {img : List ℕ} {dir : ℕ} {f : Inode} {offset : ℕ} {name : List ℕ} (r : IsAtRest img) (s : IsSpot img dir f offset name) where
  pub spot_few : dir ≤ 1048576
  spot_few = omega (arith, r.head.inodes.1, s.owns.live.number.to)

  pub spot_level : f.level ≤ 9
  spot_level = omega (arith, ap (λ (g : Inode). g.level) s.is, s.owns.level)

  pub spot_room : HasRoom f
  spot_room = subst HasRoom s.is (elim (r.sound placed dir s.owns.live).place [ inl none ↦ absurd (omega (arith, none.level, s.owns.level)) | inr some ↦ some ])

  -- the slot ends in the partition, which is no longer than a root slot
  pub spot_ends : offset + 256 ≤ 2 ^ 39
  spot_ends = let w : 8 ^ f.level ≤ 8 ^ 9 = pow-le-pow_right {n = 8} (omega arith) {i = f.level} {j = 9} spot_level in omega (arith, w, s.fits)

  -- the directory's inode is mapped
  pub spot_there : page_at img 4 (64 * dir / 4096) ≢ 0
  spot_there z =
      let page : 64 * dir / 4096 ≡ dir / 64 = omega arith in
      omega (arith, kind_none img dir spot_few (ap (page_at img 4) (sym page) ∙ z), ap (λ (g : Inode). g.kind) s.is, s.kind)

-- A new entry was written over words at rest.
pub record Enters (old new : List ℕ) (dir : ℕ) (f : Inode) (offset : ℕ) (name : List ℕ) (number kind : ℕ) : Type 0 where
  pub rest : IsAtRest old
  pub spot : IsSpot old dir f offset name
  pub unused : IsFreeInode old number
  pub sort : (kind ≡ 1) ⊎ (kind ≡ 2)
  pub small : (k : ℕ) → get_or name k 0 < 256
  pub writes : WritesEntry old new dir f offset name number kind

module _ {old new : List ℕ} {dir : ℕ} {f : Inode} {offset : ℕ} {name : List ℕ} {number kind : ℕ} (e : Enters old new dir f offset name number kind) where
  few : inode_count old ≤ 1048576
  few = e.rest.head.inodes.1

  number_few : number ≤ 1048576
  number_few = omega (arith, few, e.unused.counted.to)

  dir_few : dir ≤ 1048576
  dir_few = spot_few e.rest e.spot

  room : HasRoom f
  room = spot_room e.rest e.spot

  -- the slot ends in root slot 511
  slot_ends : f.base + offset + 256 ≤ 2 ^ 48
  slot_ends = omega (arith, slot_high (offset + 255) room (omega (arith, e.spot.fits)))

  place_whole : (f.base + offset) % 256 ≡ 0
  place_whole =
      let q : ℕ = f.base / part_bytes f.level in
      let parts = div-add-mod f.base (part_bytes f.level) in
      let factor : 4096 * 8 ^ f.level * (f.base / part_bytes f.level) ≡ 4096 * (8 ^ f.level * (f.base / part_bytes f.level)) = mul_assoc 4096 (8 ^ f.level) (f.base / part_bytes f.level) in
      omega (arith, parts, factor, room.part.aligned, e.spot.aligned)

  abbrev named : List ℕ
  named = e.writes.named

  abbrev sized : List ℕ
  sized = e.writes.sized

  -- the bytes outside the slot, outside the size, and outside the inode stay
  slot_others : (v : ℕ) → (v < f.base + offset) ⊎ (f.base + offset + 256 ≤ v) → view named v ≡ view old v
  slot_others v off =
      view_outside e.writes.slot (omega (arith, place_whole)) v (elim off [ inl low ↦ inl low | inr high ↦ inr (omega (arith, high, length-slot_words number name)) ])

  size_others : (v : ℕ) → (v < 64 * dir + 8) ⊎ (64 * dir + 16 ≤ v) → view sized v ≡ view named v
  size_others v off = elim e.writes.size [
    | inl kept ↦ ap (λ (img : List ℕ). view img v) kept.1
    | inr more ↦ view_outside more.1 (omega arith) v (elim off [ inl low ↦ inl low | inr high ↦ inr (omega (arith, high)) ])
  ]

  object_others : (v : ℕ) → (v < 64 * number) ⊎ (64 * number + 64 ≤ v) → view new v ≡ view sized v
  object_others v off = view_outside e.writes.object (omega arith) v (elim off [ inl low ↦ inl low | inr high ↦ inr (omega (arith, high)) ])

  others : (v : ℕ) → (v < 64 * number) ⊎ (64 * number + 64 ≤ v) → (v < 64 * dir + 8) ⊎ (64 * dir + 16 ≤ v)
      → (v < f.base + offset) ⊎ (f.base + offset + 256 ≤ v) → view new v ≡ view old v
  others v object size slot = object_others v object ∙ size_others v size ∙ slot_others v slot

  -- the slot
  slot_word : (k : ℕ) → slice_index (slot_words number name) k % 2 ^ 64 ≡ slice_index (slot_words number name) k
  slot_word k = let fits = slot_words-fit number name k (omega (arith, number_few)) (is_name-length name e.spot.lawful).1 e.small in omega (arith, fits)

  slot_written : IsWritten (record { kind = 2; size = 0; at = view new }) (f.base + offset) number name
  slot_written = record {
    bytes = λ k lt.
        let low : 10 * 2 ^ 39 ≤ f.base = room.part.low in
        let at : (f.base + offset + k - (f.base + offset)) / 8 ≡ k / 8 = omega arith in
        let byte : (f.base + offset + k) % 8 ≡ k % 8 = omega (arith, place_whole) in
        object_others (f.base + offset + k) (inr (omega (arith, low, number_few)))
        ∙ size_others (f.base + offset + k) (inr (omega (arith, low, dir_few)))
        ∙ view_inside e.writes.slot (omega (arith, place_whole)) (f.base + offset + k) (seen_part (f.base + offset + k) (omega (arith, low)) (omega (arith, slot_ends))) (omega arith) (omega (arith, length-slot_words number name))
        ∙ ap (λ j. slice_index (slot_words number name) j % 18446744073709551616 / 256 ^ ((f.base + offset + k) % 8) % 256) at
        ∙ ap (λ j. slice_index (slot_words number name) (k / 8) % 18446744073709551616 / 256 ^ j % 256) byte
        ∙ ap (λ w. w / 256 ^ (k % 8) % 256) (slot_word (k / 8));
    some = e.unused.counted.from;
    few = number_few;
    name = e.spot.lawful;
    small = e.small;
  }

  filled : IsFilled (view new) (f.base + offset) number name
  filled = record {
    child = written_inode slot_written;
    long = written_length slot_written;
    name = ap (bytes_from (view new) (f.base + offset + 8)) (sym (written_length slot_written)) ∙ written_name slot_written;
    padding = written_padding slot_written;
    used = written_used slot_written;
  }

  -- the inode
  kind_fits : kind < 2 ^ 64
  kind_fits = elim e.sort [ inl one ↦ omega (arith, one) | inr two ↦ omega (arith, two) ]

  pub object_is : inode (view new) number ≡ empty_inode kind
  object_is = inode_put number (64 * number) (empty_inode kind) e.writes.object refl number_few kind_fits (omega arith) (omega arith) (omega arith)

  spare : (k : ℕ) → 4 ≤ k → k < 8 → inode_word (view new) number k ≡ 0
  spare k le lt =
      word_shown new number k number_few lt
      ∙ ap (λ w. w % 18446744073709551616) (word_inside e.writes.object (omega arith) k lt ∙ none k le lt)
    where
      none : (k : ℕ) → 4 ≤ k → k < 8 → slice_index (inode_words (empty_inode kind)) k ≡ 0
      none zero le lt = absurd (omega arith)
      none (suc zero) le lt = absurd (omega arith)
      none (suc (suc zero)) le lt = absurd (omega arith)
      none (suc (suc (suc zero))) le lt = absurd (omega arith)
      none (suc (suc (suc (suc zero)))) le lt = refl
      none (suc (suc (suc (suc (suc zero))))) le lt = refl
      none (suc (suc (suc (suc (suc (suc zero)))))) le lt = refl
      none (suc (suc (suc (suc (suc (suc (suc zero))))))) le lt = refl
      none (suc (suc (suc (suc (suc (suc (suc (suc k)))))))) le lt = absurd (omega arith)

  -- the directory's size
  apart_from : dir ≢ number
  apart_from is = omega (arith, e.spot.kind, ap (λ (g : Inode). g.kind) e.spot.is, ap (λ k. (inode (view old) k).kind) is, e.unused.free)

  size_word : inode_word (view new) dir 1 ≡ inode_word (view sized) dir 1
  size_word = little-same (view sized) (view new) (64 * dir + 8 * 1) (64 * dir + 8 * 1) 8 (λ k lt.
      object_others (64 * dir + 8 * 1 + k) (elim (cases_lt dir number) [ inl less ↦ inl (omega arith) | inr more ↦ let ne = apart_from in inr (omega arith) ]))

  size_before : inode_word (view named) dir 1 ≡ f.size
  size_before =
      little-same (view old) (view named) (64 * dir + 8 * 1) (64 * dir + 8 * 1) 8 (λ k lt. slot_others (64 * dir + 8 * 1 + k) (inl (omega (arith, room.part.low, dir_few))))
      ∙ ap (λ (g : Inode). g.size) e.spot.is

  size_now : inode_word (view sized) dir 1 ≡ max f.size (offset + 256)
  size_now = elim e.writes.size [
    | inl kept ↦ ap (λ (img : List ℕ). inode_word (view img) dir 1) kept.1 ∙ size_before ∙ omega (arith, kept.0)
    | inr more ↦
        word_shown sized dir 1 dir_few (omega arith)
        ∙ ap (λ w. w % 18446744073709551616) (ap (word_at sized) (omega arith) ∙ word_inside more.1 (omega arith) 0 (omega arith))
        ∙ omega (arith, more.0, spot_ends e.rest e.spot)
  ]

  pub dir_size : (inode (view new) dir).size ≡ max f.size (offset + 256)
  dir_size = size_word ∙ size_now

  space : HasSpace (view old) (inode_count old)
  space = record {
    few = few;
    inodes = e.rest.sound inodes;
    placed = e.rest.sound placed;
    apart = e.rest.sound apart;
    tails = e.rest.sound tails;
    headers = e.rest.sound headers;
    rest = e.rest.sound rest;
  }

  base_is : (inode (view old) dir).base ≡ f.base
  base_is = ap (λ (g : Inode). g.base) e.spot.is

  size_is : (inode (view old) dir).size ≡ f.size
  size_is = ap (λ (g : Inode). g.size) e.spot.is

  makes : MakesEntry (view old) (view new) (inode_count old) dir offset number name
  makes = record {
    space = space;
    owns = e.spot.owns;
    dir = ap (λ (g : Inode). g.kind) e.spot.is ∙ e.spot.kind;
    aligned = e.spot.aligned;
    low = omega (arith, e.spot.low, size_is);
    fits = omega (arith, e.spot.fits, ap (λ (g : Inode). 8 ^ g.level) e.spot.is);
    number = e.unused.counted;
    free = e.unused.free;
    kind = elim e.sort [ inl one ↦ inl (ap (λ (g : Inode). g.kind) object_is ∙ one) | inr two ↦ inr (ap (λ (g : Inode). g.kind) object_is ∙ two) ];
    size = ap (λ (g : Inode). g.size) object_is;
    base = ap (λ (g : Inode). g.base) object_is;
    level = ap (λ (g : Inode). g.level) object_is;
    spare = spare;
    filled = subst (λ v. IsFilled (view new) (v + offset) number name) (sym base_is) filled;
    grown = dir_size ∙ ap (λ n. max n (offset + 256)) (sym size_is);
    others = λ v object size slot. others v object size (elim slot [ inl low ↦ inl (omega (arith, low, base_is)) | inr high ↦ inr (omega (arith, high, base_is)) ]);
  }

  -- the tables
  size_cells : (d x : ℕ) → d ≤ 4 → page_at sized d x ≡ page_at named d x
  size_cells d x le = elim e.writes.size [ inl kept ↦ ap (λ (img : List ℕ). page_at img d x) kept.1 | inr more ↦ more.1.cells d x le ]

  size_front : (w : ℕ) → w < 512 → word sized w ≡ word named w
  size_front w lt = elim e.writes.size [ inl kept ↦ ap (λ (img : List ℕ). word img w) kept.1 | inr more ↦ more.1.head w lt ]

  size_length : length sized ≡ length named
  size_length = elim e.writes.size [ inl kept ↦ ap length kept.1 | inr more ↦ more.1.size ]

  pub entry_keeps : KeepsTables old new
  entry_keeps = record {
    cells = λ d x le. e.writes.object.cells d x le ∙ size_cells d x le ∙ e.writes.slot.cells d x le;
    head = λ w lt. e.writes.object.head w lt ∙ size_front w lt ∙ e.writes.slot.head w lt;
    size = e.writes.object.size ∙ size_length ∙ e.writes.slot.size;
  }

  pub creates : Creates old new dir offset number name
  creates = record {
    whole = record { tables = e.rest.tables; mapped = e.rest.sound mapped };
    sound = e.rest.sound;
    makes = makes;
    tables = e.writes.object.tables;
    pages = λ p. entry_keeps.cells 4 p (omega arith);
    inodes = entry_keeps.head 3 (omega arith);
    unused = e.spot.unused;
    name = e.spot.lawful;
    few = (is_name-length name e.spot.lawful).1;
    fresh = e.spot.fresh;
    root =
        let first : IsNumber (inode_count old) 1 = record { from = omega arith; to = omega (arith, e.rest.head.inodes.0) } in
        ap (λ (g : Object). g.kind) (objects-in (view old) (inode_count old) 1 first) ∙ (e.rest.sound inodes 1 first).root refl;
  }

  -- another object keeps its kind
  pub kind_stays : (j : ℕ) → IsNumber (inode_count old) j → j ≢ number → (inode (view new) j).kind ≡ (inode (view old) j).kind
  kind_stays j counted other =
      let low = room.part.low in
      let most : j ≤ 1048576 = omega (arith, few, counted.to) in
      little-same (view old) (view new) (64 * j + 8 * 0) (64 * j + 8 * 0) 8 (λ k lt.
      others (64 * j + 8 * 0 + k)
      (elim (cases_lt j number) [ inl less ↦ inl (omega arith) | inr more ↦ inr (omega (arith, other)) ])
      (elim (cases_lt dir j) [ inl less ↦ inr (omega arith) | inr more ↦ inl (omega arith) ])
      (inl (omega (arith, low))))

  -- so what was live is live
  pub live_on : KeepsLive old new
  live_on i live =
      let counted : inode_count new ≡ inode_count old = entry_keeps.head 3 (omega arith) in
      let other : i ≢ number = λ is. live.used (ap (λ k. (inode (view old) k).kind) is ∙ e.unused.free) in
      record {
        number = record { from = live.number.from; to = omega (arith, live.number.to, counted) };
        used = λ free. live.used (sym (kind_stays i live.number other) ∙ free);
      }

  -- the directory keeps its partition
  dir_word : (k : ℕ) → 2 ≤ k → k < 4 → inode_word (view new) dir k ≡ inode_word (view old) dir k
  dir_word k from to = little-same (view old) (view new) (64 * dir + 8 * k) (64 * dir + 8 * k) 8 (λ j lt.
      let ne = apart_from in
      let low = room.part.low in
      others (64 * dir + 8 * k + j) (elim (cases_lt dir number) [ inl less ↦ inl (omega arith) | inr more ↦ inr (omega arith) ]) (inr (omega arith)) (inl (omega (arith, low, dir_few))))

  pub part_stays : KeepsPart old new dir
  part_stays = (dir_word 2 (omega arith) (omega arith), dir_word 3 (omega arith) (omega arith))

  pub entry_kind : (inode (view new) number).kind ≡ kind
  entry_kind = ap (λ (g : Inode). g.kind) object_is
