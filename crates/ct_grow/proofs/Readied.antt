-- Once the wants are met, the object may move.
use Rattle.std.proofs.Common.{◌≡◌, ◌≢◌, ℕ, ◌+◌, ◌-◌, ◌*◌, ◌/◌, ◌^◌, ◌<◌, ◌≤◌, true, List, refl, sym, ap, subst, ◌∙◌, inl, inr, arith}
use Rattle.std.specs.Prelude.{Contains}
use Rattle.std.proofs.Math.Nat.{div-div-eq-div-mul}
use Rattle.ct_base.specs.declared.inode.Inode.{Inode}
use Rattle.ct_base.specs.Headers.{StandFor, is_one}
use Rattle.ct_base.specs.Inode.{inode, Partition, IsPart, part, number_of, is_free, live_parts}
use Rattle.ct_base.specs.Plan.{growth_need, growth_wants, next_part}
use Rattle.ct_base.specs.Published.{header_words}
use Rattle.ct_base.specs.Rules.{Owns, HasRoom}
use Rattle.ct_base.specs.View.{view, inode_count}
use Rattle.ct_base.specs.Walk.{page_at}
use Rattle.ct_base.specs.Wants.{Want, missing}
use Rattle.ct_frames.specs.Free.{FreePages}
use Rattle.ct_inode.proofs.Loaded.{kind_none}
use Rattle.ct_parts.proofs.Lists.{base-is}
use Rattle.ct_parts.proofs.Live.{live_stand}
use Rattle.ct_state.proofs.Owners.{owner_one}
use Rattle.ct_walk.specs.Growth.{Grown}
use Rattle.ct_walk.specs.Has.{HasAll}
use Rattle.ct_grow.specs.Drafted.{CanMove, HasOld, Moves}
use Rattle.ct_grow.specs.Grown.{CanGrow, IsReady}
use Rattle.ct_grow.proofs.Growing.{free_apart, has_of}
use Rattle.ct_grow.proofs.Heads.{live_headers}
use Rattle.ct_grow.proofs.Moved.{Grew, space_of}
use Rattle.ct_grow.proofs.Chosen.{chosen_free}
use Rattle.ct_grow.proofs.Wanting.{headers_there, tables_there}

-- Pages were made for the growth of object i to a free partition.
pub record Made (w0 w1 : List ℕ) (before after : FreePages) (i : ℕ) (p : Partition) : Type 0 where
  pub can : CanGrow w0 i p.level
  pub is_part : IsPart p
  pub free : is_free (live_parts (view w0) (inode_count w0)) p ≡ true
  pub grown : Grown w0 w1 (growth_wants (inode (view w0) i) p) before after
  pub all : HasAll w1 (growth_wants (inode (view w0) i) p)

module _ {w0 w1 : List ℕ} {before after : FreePages} {i : ℕ} {p : Partition} (m : Made w0 w1 before after i p) where
  abbrev f : Inode
  f = inode (view w0) i

  number_small : i ≤ 1048576
  number_small = omega (arith, m.can.live.number.to, m.can.ready.inodes.1)

  room_of : f.level ≢ 15 → HasRoom f
  room_of some = elim ((space_of w0 m.can.ready).placed i m.can.live).place [ inl none ↦ absurd (some none.level) | inr room ↦ room ]

  kept : (d x : ℕ) → d ≤ 4 → page_at w0 d x ≢ 0 → page_at w1 d x ≢ 0
  kept d x le there none = there (sym (m.grown.walks d x le there) ∙ none)

  inode_page : page_at w1 4 (64 * i / 4096) ≢ 0
  inode_page =
      let number : 64 * i / 4096 ≡ i / 64 = omega arith in
      kept 4 (64 * i / 4096) (omega arith) (λ none. m.can.live.used (kind_none w0 i number_small (sym (ap (page_at w0 4) number) ∙ none)))

  smaller : f.level ≢ 15 → f.level < p.level
  smaller some = elim m.can.more [ inl is ↦ absurd (some is) | inr lt ↦ lt ]

  old_there : (some : f.level ≢ 15) → (a : ℕ) → Contains (header_words (part f)) a → page_at w1 4 (a / 4096) ≢ 0
  old_there some a on =
      let space = space_of w0 m.can.ready in
      let room = room_of some in
      let o : Owns (view w0) (inode_count w0) i = record { live = m.can.live; level = room.part.level } in
      let stand : StandFor (view w0) (live_parts (view w0) (inode_count w0)) = live_stand (view w0) (inode_count w0) space.placed space.apart space.headers in
      let one : is_one (live_parts (view w0) (inode_count w0)) f.level (number_of (part f)) ≡ true = owner_one (view w0) (inode_count w0) f.level (number_of (part f)) (record {
        inode_number = i;
        from = m.can.live.number.from;
        to = m.can.live.number.to;
        has = has_of (view w0) (inode_count w0) i o;
        level = refl;
        base = base-is (part f) room.part;
      }) in
      kept 4 (a / 4096) (omega arith) (live_headers w0 (live_parts (view w0) (inode_count w0)) (part f) stand room.part one a on)

  -- a table of a height at an address
  at_table : (v : ℕ) → page_at w1 (4 - (f.level / 3 + 1)) (v / (4096 * 512 ^ (f.level / 3 + 1))) ≢ 0 → page_at w1 (3 - f.level / 3) (v / 4096 / 512 ^ (f.level / 3 + 1)) ≢ 0
  at_table v there none =
      let depth : 4 - (f.level / 3 + 1) ≡ 3 - f.level / 3 = omega arith in
      there (ap (λ d. page_at w1 d (v / (4096 * 512 ^ (f.level / 3 + 1)))) depth ∙ ap (page_at w1 (3 - f.level / 3)) (sym (div-div-eq-div-mul v 4096 (512 ^ (f.level / 3 + 1)))) ∙ none)

  pub old_ready : f.level ≢ 15 → HasOld w1 f p
  old_ready some =
      let room = room_of some in
      let o : Owns (view w0) (inode_count w0) i = record { live = m.can.live; level = room.part.level } in
      let tables = tables_there f p w1 m.all some in
      record {
        own = room.part;
        smaller = smaller some;
        apart = free_apart (view w0) (inode_count w0) i p m.can.live.number.from m.can.live.number.to (has_of (view w0) (inode_count w0) i o) m.free;
        there = old_there some;
        first = at_table f.base (tables.0 f.base (omega arith) (omega arith));
        second = at_table p.base (tables.1 p.base (omega arith) (omega arith));
      }

  pub can_move : CanMove w1 i f p
  can_move = record {
    from = m.can.live.number.from;
    to = number_small;
    inode_there = inode_page;
    new = m.is_part;
    new_there = headers_there f p w1 m.all;
    has = old_ready;
  }

-- ---- as the functions have it

-- the headers stand for the live partitions
pub stands_now : {img : List ℕ} → IsReady img → StandFor (view img) (live_parts (view img) (inode_count img))
stands_now {img} r = let space = space_of img r in live_stand (view img) (inode_count img) space.placed space.apart space.headers

-- The calls before the record: what they were given, and what they made.
pub record Calls (w0 w1 : List ℕ) (before after : FreePages) (i level : ℕ) (f : Inode) (wants : List Want) (p : Partition) : Type 0 where
  pub can : CanGrow w0 i level
  pub is_part : IsPart p
  pub at_level : p.level ≡ level
  pub first : next_part (view w0) (inode_count w0) level ≡ p
  pub was : f ≡ inode (view w0) i
  pub asked : wants ≡ growth_wants f p
  pub grown : Grown w0 w1 wants before after
  pub all : HasAll w1 wants

module _ {w0 w1 : List ℕ} {before after : FreePages} {i level : ℕ} {f : Inode} {wants : List Want} {p : Partition} (c : Calls w0 w1 before after i level f wants p) where
  asked_all : wants ≡ growth_wants (inode (view w0) i) p
  asked_all = c.asked ∙ ap (λ (g : Inode). growth_wants g p) c.was

  pub made : Made w0 w1 before after i p
  made = record {
    can = subst (CanGrow w0 i) (sym c.at_level) c.can;
    is_part = c.is_part;
    free = chosen_free (live_parts (view w0) (inode_count w0)) level p c.can.some c.first;
    grown = subst (λ (l : List Want). Grown w0 w1 l before after) asked_all c.grown;
    all = subst (HasAll w1) asked_all c.all;
  }

  pub may_move : CanMove w1 i f p
  may_move = subst (λ (g : Inode). CanMove w1 i g p) (sym c.was) (can_move made)

  pub grew : {w2 : List ℕ} → Moves w1 w2 i f p → Grew w0 w1 w2 before after i p
  grew {w2} m = record {
    ready = c.can.ready;
    live = c.can.live;
    is_part = c.is_part;
    free = made.free;
    more = made.can.more;
    grown = made.grown;
    all = made.all;
    old = old_ready made;
    moves = subst (λ (g : Inode). Moves w1 w2 i g p) c.was m;
  }

-- the partition of an inode that has one
pub own_part : {img : List ℕ} {i level : ℕ} → CanGrow img i level → (inode (view img) i).level ≢ 15 → IsPart (part (inode (view img) i))
own_part {img} {i} can some = elim ((space_of img can.ready).placed i can.live).place [ inl none ↦ absurd (some none.level) | inr room ↦ room.part ]

-- what is missing of the wants is what growth needs
pub needed_at : (img : List ℕ) (i level : ℕ) (f : Inode) (wants : List Want) (p : Partition) → f ≡ inode (view img) i → next_part (view img) (inode_count img) level ≡ p → wants ≡ growth_wants f p
    → missing img wants ≡ growth_need img (inode (view img) i) level
needed_at img i level f wants p was next asked =
    ap (missing img) (asked ∙ ap (λ (g : Inode). growth_wants g p) was ∙ ap (growth_wants (inode (view img) i)) (sym next))
