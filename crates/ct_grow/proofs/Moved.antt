-- An object has moved: the walks and the bytes by address.
use Rattle.std.proofs.Common.{◌≡◌, ◌≢◌, ℕ, ◌+◌, ◌*◌, ◌/◌, ◌%◌, ◌^◌, ◌<◌, ◌≤◌, true, List, refl, sym, ap, ◌∙◌, ◌⊎◌, inl, inr, arith}
use Rattle.std.proofs.lemmas.Bool.{cases_eq, eq-eqb, ne_eqb}
use Rattle.ct_base.specs.declared.inode.Inode.{Inode}
use Rattle.ct_base.specs.Exchange.{partner, Outside}
use Rattle.ct_base.specs.Inode.{inode, IsLive, IsIn, Partition, IsPart, part, part_bytes, is_free, live_parts}
use Rattle.ct_base.specs.Plan.{growth_wants}
use Rattle.ct_base.specs.Rules.{Owns, part_of, HasNone, HasRoom, inodes, placed, apart, tails, mapped, headers, rest}
use Rattle.ct_base.specs.View.{view, inode_count}
use Rattle.ct_base.specs.Walk.{byte, byte_in, walk, page_at}
use Rattle.ct_frames.specs.Free.{FreePages}
use Rattle.ct_image.proofs.Partner.{partner-second, partner-first}
use Rattle.ct_image.proofs.Steps.{walk-cell}
use Rattle.ct_state.proofs.Commit.{exchanged_byte, outside_byte}
use Rattle.ct_state.proofs.Write.{HasSpace}
use Rattle.ct_walk.specs.Growth.{Grown}
use Rattle.ct_walk.specs.Has.{HasAll}
use Rattle.ct_grow.specs.Drafted.{HasOld, IsWritten, Moves}
use Rattle.ct_grow.specs.Grown.{IsReady, pages_of}
use Rattle.ct_grow.proofs.Apart.{old_first, new_first, old_high, new_high, pages_apart}
use Rattle.ct_grow.proofs.Heads.{path_bounds}
use Rattle.ct_grow.proofs.Wanting.{unwanted}

-- Pages were made, and then object i moved to a partition.
pub record Grew (w0 w1 w2 : List ℕ) (before after : FreePages) (i : ℕ) (p : Partition) : Type 0 where
  pub ready : IsReady w0
  pub live : IsLive (view w0) (inode_count w0) i
  pub is_part : IsPart p
  pub free : is_free (live_parts (view w0) (inode_count w0)) p ≡ true
  pub more : ((inode (view w0) i).level ≡ 15) ⊎ ((inode (view w0) i).level < p.level)
  pub grown : Grown w0 w1 (growth_wants (inode (view w0) i) p) before after
  pub all : HasAll w1 (growth_wants (inode (view w0) i) p)
  pub old : (inode (view w0) i).level ≢ 15 → HasOld w1 (inode (view w0) i) p
  pub moves : Moves w1 w2 i (inode (view w0) i) p

pub none_pages : (f : Inode) → f.level ≡ 15 → pages_of f ≡ 0
none_pages f is = rw (eq-eqb f.level 15 is) refl

pub some_pages : (f : Inode) → f.level ≢ 15 → pages_of f ≡ 8 ^ f.level
some_pages f not = rw (ne_eqb f.level 15 not) refl

pub space_of : (img : List ℕ) → IsReady img → HasSpace (view img) (inode_count img)
space_of img r = record {
  few = r.inodes.1;
  inodes = r.rules inodes (omega arith);
  placed = r.rules placed (omega arith);
  apart = r.rules apart (omega arith);
  tails = r.rules tails (omega arith);
  headers = r.rules headers (omega arith);
  rest = r.rules rest (omega arith);
}

module _ {w0 w1 w2 : List ℕ} {before after : FreePages} {i : ℕ} {p : Partition} (s : Grew w0 w1 w2 before after i p) where
  abbrev f : Inode
  f = inode (view w0) i

  abbrev middle : List ℕ
  middle = s.moves.middle

  abbrev a : ℕ
  a = (inode (view w0) i).base / 4096

  abbrev b : ℕ
  b = p.base / 4096

  abbrev n : ℕ
  n = pages_of (inode (view w0) i)

  pub space : HasSpace (view w0) (inode_count w0)
  space = space_of w0 s.ready

  -- the inode has no partition and no bytes, or one that is large enough
  pub placed_now : HasNone f ⊎ HasRoom f
  placed_now = (space.placed i s.live).place

  pub owns : f.level ≢ 15 → Owns (view w0) (inode_count w0) i
  owns some = record { live = s.live; level = elim placed_now [ inl none ↦ absurd (some none.level) | inr room ↦ room.part.level ] }

  pub owned : Owns (view w0) (inode_count w0) i → f.level ≢ 15
  owned o is = omega (arith, o.level, is)

  -- a page below root slot 10 is in neither range
  pub out_low : (q : ℕ) → q < 10 * 2 ^ 27 → Outside a b n q
  out_low q lt = elim (cases_eq f.level 15) [
    | inl is ↦ let none = none_pages f is in record { first = λ le. omega (arith, none); second = λ le. omega (arith, none) }
    | inr some ↦
        let o = s.old some in
        record { first = λ le. absurd (omega (arith, o.own.low)); second = λ le. absurd (omega (arith, s.is_part.low)) }
  ]

  -- ---- bytes

  pub unwritten : (v : ℕ) → 2 ^ 40 ≤ v → (x : ℕ) → IsWritten i f p x → v / 8 ≢ x / 8
  unwritten v high x (inl (inl on)) is = omega (arith, (path_bounds p s.is_part x on).1)
  unwritten v high x (inl (inr (some, on))) is = omega (arith, (path_bounds (part f) (s.old some).own x on).1)
  unwritten v high x (inr (inl at)) is = let few = s.live.number.to in let most = s.ready.inodes.1 in omega arith
  unwritten v high x (inr (inr at)) is = let few = s.live.number.to in let most = s.ready.inodes.1 in omega arith

  -- a byte that the pairs for words of data do not name
  pub byte_middle : (v : ℕ) → v < 2 ^ 48 → ((x : ℕ) → IsWritten i f p x → v / 8 ≢ x / 8) → byte middle v ≡ byte w0 v
  byte_middle v lt off = s.moves.places.bytes v lt off ∙ s.grown.bytes v lt

  pub byte_out : (v : ℕ) → v < 2 ^ 48 → Outside a b n (v / 4096) → byte w2 v ≡ byte middle v
  byte_out v lt out = outside_byte s.moves.exchanged v lt out

  -- an address in the first pages of the new partition, and its partner
  pub brought : f.level ≢ 15 → (k : ℕ) → k < part_bytes f.level → partner a b n ((p.base + k) / 4096) ≡ (f.base + k) / 4096
  brought some k lt =
      let o = s.old some in
      let one = old_first o s.is_part in
      let two = new_first o s.is_part in
      let count = some_pages f some in
      let inside : (p.base + k) / 4096 < b + n = omega (arith, count, two.start) in
      partner-second a b n ((p.base + k) / 4096)
      (λ le. elim (pages_apart o s.is_part) [ inl before ↦ omega (arith, before, count, two.start) | inr later ↦ omega (arith, later, count, two.start, le) ])
      (omega (arith, two.start)) inside
      ∙ omega (arith, one.start, two.start)

  pub given_partner : f.level ≢ 15 → (k : ℕ) → k < part_bytes f.level → partner a b n ((f.base + k) / 4096) ≡ (p.base + k) / 4096
  given_partner some k lt =
      let o = s.old some in
      let one = old_first o s.is_part in
      let two = new_first o s.is_part in
      let count = some_pages f some in
      partner-first a b n ((f.base + k) / 4096) (omega (arith, one.start)) (omega (arith, count, one.start)) ∙ omega (arith, one.start, two.start)

  pub byte_brought : f.level ≢ 15 → (k : ℕ) → k < part_bytes f.level → byte w2 (p.base + k) ≡ byte w0 (f.base + k)
  byte_brought some k lt =
      let o = s.old some in
      let high = new_high o s.is_part in
      let high' = old_high o s.is_part in
      let one = old_first o s.is_part in
      let two = new_first o s.is_part in
      let low = o.own.low in
      let last : (p.base + k) % 4096 ≡ (f.base + k) % 4096 = omega (arith, one.start, two.start) in
      let to : f.base + k < 2 ^ 48 = omega (arith, high', one.start) in
      exchanged_byte s.moves.exchanged (p.base + k) (omega (arith, high, two.start))
      ∙ ap (λ q. byte_in middle (page_at middle 4 q) ((p.base + k) % 4096)) (brought some k lt)
      ∙ ap (byte_in middle (page_at middle 4 ((f.base + k) / 4096))) last
      ∙ sym (ap (λ t. byte_in middle t ((f.base + k) % 4096)) (walk-cell middle (f.base + k) to))
      ∙ byte_middle (f.base + k) to (unwritten (f.base + k) (omega (arith, low)))

  pub byte_given : f.level ≢ 15 → (k : ℕ) → k < part_bytes f.level → byte w2 (f.base + k) ≡ byte w0 (p.base + k)
  byte_given some k lt =
      let o = s.old some in
      let high = new_high o s.is_part in
      let high' = old_high o s.is_part in
      let one = old_first o s.is_part in
      let two = new_first o s.is_part in
      let low = s.is_part.low in
      let last : (f.base + k) % 4096 ≡ (p.base + k) % 4096 = omega (arith, one.start, two.start) in
      let to : p.base + k < 2 ^ 48 = omega (arith, high, two.start) in
      exchanged_byte s.moves.exchanged (f.base + k) (omega (arith, high', one.start))
      ∙ ap (λ q. byte_in middle (page_at middle 4 q) ((f.base + k) % 4096)) (given_partner some k lt)
      ∙ ap (byte_in middle (page_at middle 4 ((p.base + k) / 4096))) last
      ∙ sym (ap (λ t. byte_in middle t ((p.base + k) % 4096)) (walk-cell middle (p.base + k) to))
      ∙ byte_middle (p.base + k) to (unwritten (p.base + k) (omega (arith, low)))

  -- ---- pages

  -- no page past the headers is asked for
  pub pages_stay : (q : ℕ) → 2 * 2 ^ 27 ≤ q → page_at w1 4 q ≡ page_at w0 4 q
  pages_stay q high = s.grown.cells 4 q (omega arith) (unwanted f p 4 q (λ x on. (path_bounds p s.is_part x on).1) (omega arith) (λ some. inl (omega arith)))

  pub page_now : (q : ℕ) → page_at w2 4 q ≡ page_at w1 4 (partner a b n q)
  page_now q = s.moves.exchanged.pages q ∙ s.moves.places.cells 4 (partner a b n q) (omega arith)

  pub walk_brought : f.level ≢ 15 → (k : ℕ) → k < part_bytes f.level → walk w2 (p.base + k) ≡ walk w0 (f.base + k)
  walk_brought some k lt =
      let o = s.old some in
      let high = new_high o s.is_part in
      let high' = old_high o s.is_part in
      let one = old_first o s.is_part in
      let two = new_first o s.is_part in
      let low = o.own.low in
      walk-cell w2 (p.base + k) (omega (arith, high, two.start)) ∙ page_now ((p.base + k) / 4096) ∙ ap (page_at w1 4) (brought some k lt)
      ∙ pages_stay ((f.base + k) / 4096) (omega (arith, low)) ∙ sym (walk-cell w0 (f.base + k) (omega (arith, high', one.start)))

  -- a page that no live partition holds is absent
  pub absent : (q : ℕ) → 10 * 2 ^ 27 ≤ q → ((j : ℕ) → Owns (view w0) (inode_count w0) j → IsIn (part_of (view w0) j) (q * 4096) → ⊥) → page_at w0 4 q ≡ 0
  absent q high out = s.ready.rules mapped (omega arith) q high out
