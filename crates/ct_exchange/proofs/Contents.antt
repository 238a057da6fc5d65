-- An exchange is two writes, one behind the other: the first file gets the range of the second, and the second what the first had.
use Rattle.std.proofs.Common.{◌≡◌, ℕ, ◌+◌, ◌-◌, ◌*◌, ◌/◌, ◌%◌, ◌^◌, ◌<◌, ◌≤◌, false, List, sym, ap, ◌∙◌, inl, inr, arith}
use Rattle.std.specs.Prelude.{nat_le, nat_lt, ◌&&◌, if◌then◌else◌}
use Rattle.std.proofs.Math.Nat.{div-add-mod, mul_assoc}
use Rattle.std.proofs.lemmas.Bool.{cases_eq, cases_lt, le-leb, lt-leb, lt-ltb, le-ltb, and_from, and_left, and_right, cond-true, cond-false}
use Rattle.ct_base.specs.declared.inode.Inode.{Inode}
use Rattle.ct_base.specs.Exchange.{Apart, partner}
use Rattle.ct_base.specs.Inode.{inode, inode_word, part, part_bytes}
use Rattle.ct_base.specs.Rules.{HasRoom, Owns}
use Rattle.ct_base.specs.View.{view, inode_count}
use Rattle.ct_grow.proofs.Spans.{part_high}
use Rattle.ct_image.proofs.Partner.{partner-first, partner-second, partner-other}
use Rattle.ct_state.proofs.Bytes.{little-same}
use Rattle.ct_state.proofs.Write.{HasSpace, WritesFile, owns_on, space_stays}
use Rattle.ct_exchange.specs.Ranges.{CanExchange, page_of}

pub room_of : {b : ℕ → ℕ} {count i : ℕ} → HasSpace b count → Owns b count i → HasRoom (inode b i)
room_of space owns = elim (space.placed _ owns.live).place [ inl none ↦ absurd (omega (arith, none.level, owns.level)) | inr r ↦ r ]

-- partitions begin at pages
base_whole : {f : Inode} → HasRoom f → f.base % 4096 ≡ 0
base_whole {f} room =
    let parts = div-add-mod f.base (part_bytes f.level) in
    let factor : 4096 * 8 ^ f.level * (f.base / part_bytes f.level) ≡ 4096 * (8 ^ f.level * (f.base / part_bytes f.level)) = mul_assoc 4096 (8 ^ f.level) (f.base / part_bytes f.level) in
    omega (arith, parts, factor, room.part.aligned)

-- a range of so many bytes is the same as another one's
abbrev pub copied : (ℕ → ℕ) → ℕ → ℕ → ℕ → ℕ → ℕ
copied b from to len v = if nat_le from v && nat_lt v (from + len) then b (v - from + to) else b v

pub copied-in : (b : ℕ → ℕ) (from to len v : ℕ) → from ≤ v → v < from + len → copied b from to len v ≡ b (v - from + to)
copied-in b from to len v low high = cond-true _ _ _ (and_from _ _ (le-leb from v low) (lt-ltb v (from + len) high))

pub copied-out : (b : ℕ → ℕ) (from to len v : ℕ) → (from ≤ v → from + len ≤ v) → copied b from to len v ≡ b v
copied-out b from to len v out =
    let off : (nat_le from v && nat_lt v (from + len)) ≡ false = elim (cases_lt v from) [
      | inl lt ↦ and_left (nat_le from v) (nat_lt v (from + len)) (lt-leb from v lt)
      | inr ge ↦ and_right (nat_le from v) (nat_lt v (from + len)) (le-ltb v (from + len) (out ge))
    ] in
    cond-false (nat_le from v && nat_lt v (from + len)) (b (v - from + to)) (b v) off

-- inodes stay where nothing below root slot 10 changes
pub inode_stays : (b c : ℕ → ℕ) (i : ℕ) → i ≤ 1048576 → ((v : ℕ) → v < 10 * 2 ^ 39 → c v ≡ b v) → inode c i ≡ inode b i
inode_stays b c i few same =
    let word : (k : ℕ) → k < 8 → inode_word c i k ≡ inode_word b i k = λ k lt. little-same b c (64 * i + 8 * k) (64 * i + 8 * k) 8 (λ m small. same (64 * i + 8 * k + m) (omega (arith, few, lt, small))) in
    let w0 = word 0 (omega arith) in
    let w1 = word 1 (omega arith) in
    let w2 = word 2 (omega arith) in
    let w3 = word 3 (omega arith) in
    λ t. record { kind = w0 t; size = w1 t; base = w2 t; level = w3 t }

-- ---- where the ranges lie

pub record Places (img : List ℕ) (i off j other len : ℕ) : Type 0 where
  pub first : page_of (inode (view img) i) off * 4096 ≡ (inode (view img) i).base + off
  pub second : page_of (inode (view img) j) other * 4096 ≡ (inode (view img) j).base + other
  pub count : len / 4096 * 4096 ≡ len
  pub some : 1 ≤ len / 4096
  pub most : len / 4096 ≤ 4000
  pub first_from : 10 * 2 ^ 39 ≤ (inode (view img) i).base
  pub second_from : 10 * 2 ^ 39 ≤ (inode (view img) j).base
  pub first_to : (inode (view img) i).base + off + len ≤ 2 ^ 48
  pub second_to : (inode (view img) j).base + other + len ≤ 2 ^ 48
  pub apart : Apart ((inode (view img) i).base + off) ((inode (view img) j).base + other) len
  pub first_low : 10 * 2 ^ 27 ≤ page_of (inode (view img) i) off
  pub second_low : 10 * 2 ^ 27 ≤ page_of (inode (view img) j) other
  pub first_high : page_of (inode (view img) i) off + len / 4096 ≤ 2 ^ 36
  pub second_high : page_of (inode (view img) j) other + len / 4096 ≤ 2 ^ 36

module _ {img : List ℕ} {i off j other len : ℕ} (can : CanExchange img i off j other len) (space : HasSpace (view img) (inode_count img)) where
  abbrev f : Inode
  f = inode (view img) i

  abbrev g : Inode
  g = inode (view img) j

  ranges_apart : Apart (f.base + off) (g.base + other) len
  ranges_apart = elim (cases_eq i j) [
    | inl same ↦
        let base : f.base ≡ g.base = ap (λ k. (inode (view img) k).base) same in
        elim (can.apart same) [ inl before ↦ inl (omega (arith, before, base)) | inr after ↦ inr (omega (arith, after, base)) ]
    | inr not_same ↦ elim (space.apart i j can.first can.second not_same) [
      | inl before ↦ inl (omega (arith, before, can.fits, (room_of space can.first).size))
      | inr after ↦ inr (omega (arith, after, can.other_fits, (room_of space can.second).size))
    ]
  ]

  pub places : Places img i off j other len
  places =
      let one = room_of space can.first in
      let two = room_of space can.second in
      let first : page_of f off * 4096 ≡ f.base + off = omega (arith, base_whole one, can.start) in
      let second : page_of g other * 4096 ≡ g.base + other = omega (arith, base_whole two, can.other_start) in
      let count : len / 4096 * 4096 ≡ len = omega (arith, can.whole) in
      let first_to : f.base + off + len ≤ 2 ^ 48 = omega (arith, can.fits, one.size, part_high (part f) one.part) in
      let second_to : g.base + other + len ≤ 2 ^ 48 = omega (arith, can.other_fits, two.size, part_high (part g) two.part) in
      record {
        first = first;
        second = second;
        count = count;
        some = omega (arith, can.whole, can.some);
        most = omega (arith, can.few);
        first_from = one.part.low;
        second_from = two.part.low;
        first_to = first_to;
        second_to = second_to;
        apart = ranges_apart;
        first_low = omega (arith, first, one.part.low);
        second_low = omega (arith, second, two.part.low);
        first_high = omega (arith, first, count, first_to);
        second_high = omega (arith, second, count, second_to);
      }

  -- ---- the first write

  abbrev from : ℕ
  from = f.base + off

  abbrev to : ℕ
  to = g.base + other

  abbrev pub between : ℕ → ℕ
  between = copied (view img) (f.base + off) (g.base + other) len

  low_between : (v : ℕ) → v < 10 * 2 ^ 39 → between v ≡ view img v
  low_between v low = copied-out (view img) from to len v (λ le. absurd (omega (arith, le, low, places.first_from)))

  pub inode_between : (k : ℕ) → k ≤ 1048576 → inode between k ≡ inode (view img) k
  inode_between k few = inode_stays (view img) between k few low_between

  pub first_writes : WritesFile (view img) between (inode_count img) i
  first_writes =
      let one = room_of space can.first in
      let same : inode between i ≡ f = inode_between i (omega (arith, can.first.live.number.to, space.few)) in
      record {
        space = space;
        owns = can.first;
        file = can.file;
        others = λ v out off_size. copied-out (view img) from to len v (λ le. elim (cases_lt v (from + len)) [
          | inr past ↦ past
          | inl lt ↦ absurd (out (record { from = omega (arith, le); to = omega (arith, lt, can.fits, one.size) }))
        ]);
        fits = omega (arith, ap (λ (x : Inode). x.size) same, one.size);
        tail = λ k past lt.
            let size = ap (λ (x : Inode). x.size) same in
            copied-out (view img) from to len (f.base + k) (λ le. omega (arith, past, size, can.fits)) ∙ space.tails i can.first k (omega (arith, past, size)) lt;
      }

  -- ---- the second

  module _ {c : ℕ → ℕ} (swapped : (v : ℕ) → c v ≡ view img (partner (f.base + off) (g.base + other) len v)) where
    -- off the second range the first write is all
    pub off_second : (v : ℕ) → (to ≤ v → to + len ≤ v) → c v ≡ between v
    off_second v out = swapped v ∙ elim (cases_lt v from) [
      | inl before ↦ rest (λ le. absurd (omega (arith, le, before)))
      | inr le ↦ elim (cases_lt v (from + len)) [
        | inl lt ↦ ap (view img) (partner-first from to len v le lt) ∙ sym (copied-in (view img) from to len v le lt)
        | inr past ↦ rest (λ _. past)
      ]
    ]
      where
        rest : (from ≤ v → from + len ≤ v) → view img (partner from to len v) ≡ between v
        rest out_first = ap (view img) (partner-other from to len v (record { first = out_first; second = out })) ∙ sym (copied-out (view img) from to len v out_first)

    -- and in it there is what the first had
    pub in_second : (v : ℕ) → to ≤ v → v < to + len → c v ≡ view img (v - to + from)
    in_second v le lt = swapped v ∙ ap (view img) (partner-second from to len v (λ low. elim places.apart [
      | inl before ↦ omega (arith, before, le)
      | inr after ↦ absurd (omega (arith, after, low, lt))
    ]) le lt)

    low_after : (v : ℕ) → v < 10 * 2 ^ 39 → c v ≡ view img v
    low_after v low = off_second v (λ le. absurd (omega (arith, le, low, places.second_from))) ∙ low_between v low

    pub inode_after : (k : ℕ) → k ≤ 1048576 → inode c k ≡ inode (view img) k
    inode_after k few = inode_stays (view img) c k few low_after

    pub second_writes : WritesFile between c (inode_count img) j
    second_writes =
        let two = room_of space can.second in
        let few : j ≤ 1048576 = omega (arith, can.second.live.number.to, space.few) in
        let was : inode between j ≡ g = inode_between j few in
        let is : inode c j ≡ g = inode_after j few in
        let base = ap (λ (x : Inode). x.base) was in
        let level = ap (λ (x : Inode). 8 ^ x.level) was in
        let size = ap (λ (x : Inode). x.size) is in
        let mid = space_stays first_writes in
        let size_was = ap (λ (x : Inode). x.size) was in
        record {
          space = mid;
          owns = owns_on first_writes j can.second;
          file = ap (λ (x : Inode). x.kind) was ∙ can.other_file;
          others = λ v out off_size. off_second v (λ le. elim (cases_lt v (to + len)) [
            | inr past ↦ past
            | inl lt ↦ absurd (out (record { from = omega (arith, le, base); to = omega (arith, lt, base, level, can.other_fits, two.size) }))
          ]);
          fits = omega (arith, size, level, two.size);
          tail = λ k past lt. off_second ((inode between j).base + k) (λ le. omega (arith, past, size, base, can.other_fits)) ∙ mid.tails j (owns_on first_writes j can.second) k (omega (arith, past, size, size_was)) lt;
        }
