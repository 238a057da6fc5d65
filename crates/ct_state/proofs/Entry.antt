-- A new object, and its slot in a directory that has room for it: the rules on bytes hold as before, and the objects get
-- one more.
use Rattle.std.proofs.Common.{◌≡◌, ◌≢◌, ℕ, zero, suc, ◌+◌, ◌*◌, ◌%◌, ◌^◌, ◌<◌, ◌≤◌, true, false, List, length, refl, sym, ap, ◌∙◌, subst, ◌⊎◌, inl, inr, arith}
use Rattle.std.specs.Prelude.{◌==◌, nat_le, not, ◌&&◌, max}
use Rattle.std.proofs.lemmas.Bool.{cases_eq, cases_lt, eq-eqb}
use Rattle.ct_base.specs.Headers.{HeadersStand, byte_place}
use Rattle.ct_base.specs.Inode.{inode, inode_word, little, IsNumber, IsLive, part_bytes, IsPart, AreApart, has_part, live_parts}
use Rattle.ct_base.specs.Objects.{Object, object, objects}
use Rattle.ct_base.specs.Path.{is_name}
use Rattle.ct_base.specs.Rules.{AreInodes, HasRoom, ArePlaced, AreEntries, AreNamed, AreNamesApart, AreReached, Owns, part_of, ArePartsApart, AreTailsZero, AreHeaders, IsRestZero}
use Rattle.ct_base.specs.Slots.{IsSlot, bytes_from, slot_inode, slot_length, slot_name}
use Rattle.ct_parts.proofs.Stand.{place_bounds}
use Rattle.ct_state.proofs.Adds.{Adds}
use Rattle.ct_state.proofs.Bytes.{little-same, bytes_from-same, content-at, content-past, objects-cases, objects-in, SameObject, object-same}
use Rattle.ct_state.proofs.Write.{HasSpace}

-- the bytes from an address on are those of a slot for inode i under name x
pub record IsFilled (c : ℕ → ℕ) (at i : ℕ) (x : List ℕ) : Type 0 where
  pub child : little c at 4 ≡ i
  pub long : little c (at + 4) 4 ≡ length x
  pub name : bytes_from c (at + 8) (length x) ≡ x
  pub padding : (k : ℕ) → 8 + length x ≤ k → k < 256 → c (at + k) ≡ 0
  pub used : little c at 256 ≢ 0

pub record MakesEntry (b c : ℕ → ℕ) (count d o i : ℕ) (x : List ℕ) : Type 0 where
  pub space : HasSpace b count
  -- the directory, and room for a slot in it
  pub owns : Owns b count d
  pub dir : (inode b d).kind ≡ 2
  pub aligned : o % 256 ≡ 0
  pub low : o ≤ (inode b d).size
  pub fits : o + 256 ≤ part_bytes (inode b d).level
  -- the inode
  pub number : IsNumber count i
  pub free : (inode b i).kind ≡ 0
  pub kind : ((inode c i).kind ≡ 1) ⊎ ((inode c i).kind ≡ 2)
  pub size : (inode c i).size ≡ 0
  pub base : (inode c i).base ≡ 0
  pub level : (inode c i).level ≡ 15
  pub spare : (k : ℕ) → 4 ≤ k → k < 8 → inode_word c i k ≡ 0
  -- the slot, and the directory's size
  pub filled : IsFilled c ((inode b d).base + o) i x
  pub grown : (inode c d).size ≡ max (inode b d).size (o + 256)
  pub others : (v : ℕ) → (v < 64 * i) ⊎ (64 * i + 64 ≤ v) → (v < 64 * d + 8) ⊎ (64 * d + 16 ≤ v)
      → (v < (inode b d).base + o) ⊎ ((inode b d).base + o + 256 ≤ v) → c v ≡ b v

module _ {b c : ℕ → ℕ} {count d o i : ℕ} {x : List ℕ} (m : MakesEntry b c count d o i x) where
  room : HasRoom (inode b d)
  room = elim (m.space.placed d m.owns.live).place [ inl none ↦ absurd (omega (arith, none.level, m.owns.level)) | inr r ↦ r ]

  apart : d ≢ i
  apart is = omega (arith, m.dir, ap (λ k. (inode b k).kind) is, m.free)

  -- nothing below root slot 10 changes but the inode and the directory's size
  low_same : (v : ℕ) → v < 10 * 2 ^ 39 → (v < 64 * i) ⊎ (64 * i + 64 ≤ v) → (v < 64 * d + 8) ⊎ (64 * d + 16 ≤ v) → c v ≡ b v
  low_same v low off size = m.others v off size (inl (omega (arith, low, room.part.low)))

  word-same : (j k : ℕ) → IsNumber count j → k < 8 → j ≢ i → (j ≡ d → k ≢ 1) → inode_word c j k ≡ inode_word b j k
  word-same j k number lt new other =
      little-same b c (64 * j + 8 * k) (64 * j + 8 * k) 8 (λ n small. low_same (64 * j + 8 * k + n) (omega (arith, number.to, m.space.few))
      (elim (cases_lt j i) [ inl less ↦ inl (omega arith) | inr more ↦ inr (omega (arith, new)) ])
      (elim (cases_lt (64 * j + 8 * k + n) (64 * d + 8)) [
        | inl lower ↦ inl lower
        | inr up ↦ inr (elim (cases_eq j d) [ inl here ↦ let not_size : k ≢ 1 = other here in omega arith | inr there ↦ omega arith ])
      ]))

  kind-same : (j : ℕ) → IsNumber count j → j ≢ i → (inode c j).kind ≡ (inode b j).kind
  kind-same j number new = word-same j 0 number (omega arith) new (λ here. omega arith)

  size-same : (j : ℕ) → IsNumber count j → j ≢ i → j ≢ d → (inode c j).size ≡ (inode b j).size
  size-same j number new other = word-same j 1 number (omega arith) new (λ here. absurd (other here))

  base-same : (j : ℕ) → IsNumber count j → j ≢ i → (inode c j).base ≡ (inode b j).base
  base-same j number new = word-same j 2 number (omega arith) new (λ here. omega arith)

  level-same : (j : ℕ) → IsNumber count j → j ≢ i → (inode c j).level ≡ (inode b j).level
  level-same j number new = word-same j 3 number (omega arith) new (λ here. omega arith)

  pub part-same : (j : ℕ) → IsNumber count j → j ≢ i → part_of c j ≡ part_of b j
  part-same j number new = let p = base-same j number new in let q = level-same j number new in λ e. record { base = p e; level = q e }

  -- the new object has no partition
  owns_old : (j : ℕ) → Owns c count j → j ≢ i
  owns_old j owns is = omega (arith, owns.level, ap (λ k. (inode c k).level) is, m.level)

  pub free_old : (j : ℕ) → Owns b count j → j ≢ i
  free_old j owns is = owns.live.used (ap (λ k. (inode b k).kind) is ∙ m.free)

  live_back : (j : ℕ) → j ≢ i → IsLive c count j → IsLive b count j
  live_back j new live = record { number = live.number; used = λ z. live.used (kind-same j live.number new ∙ z) }

  pub owns_back : (j : ℕ) → Owns c count j → Owns b count j
  owns_back j owns = let new = owns_old j owns in record { live = live_back j new owns.live; level = omega (arith, owns.level, level-same j owns.live.number new) }

  pub owns_on : (j : ℕ) → Owns b count j → Owns c count j
  owns_on j owns =
      let number = owns.live.number in
      let new = free_old j owns in
      record { live = record { number = number; used = λ z. owns.live.used (sym (kind-same j number new) ∙ z) }; level = omega (arith, owns.level, level-same j number new) }

  has_part-same : (j : ℕ) → IsNumber count j → j ≢ i → has_part (inode c j) ≡ has_part (inode b j)
  has_part-same j number new = ap (λ k. not (k == 0) && nat_le (inode c j).level 9) (kind-same j number new) ∙ ap (λ l. not ((inode b j).kind == 0) && nat_le l 9) (level-same j number new)

  none_before : has_part (inode b i) ≡ false
  none_before = rw (eq-eqb (inode b i).kind 0 m.free) refl

  none_after : has_part (inode c i) ≡ false
  none_after = and_no (not ((inode c i).kind == 0)) (ap (λ l. nat_le l 9) m.level)
    where
      and_no : (p : Rattle.std.specs.Prelude.Bool) {q : Rattle.std.specs.Prelude.Bool} → q ≡ false → (p && q) ≡ false
      and_no true is = is
      and_no false is = refl

  pub live_parts-same : (n : ℕ) → n ≤ count → live_parts c n ≡ live_parts b n
  unfolding live_parts
  live_parts-same zero le = refl
  live_parts-same (suc n) le =
      let number : IsNumber count (suc n) = record { from = omega arith; to = le } in
      elim (cases_eq (suc n) i) [
        | inl new ↦
            let after : has_part (inode c (suc n)) ≡ false = ap (λ k. has_part (inode c k)) new ∙ none_after in
            let before : has_part (inode b (suc n)) ≡ false = ap (λ k. has_part (inode b k)) new ∙ none_before in
            rw (after, before) (live_parts-same n (omega arith))
        | inr old ↦ rw (has_part-same (suc n) number old, part-same (suc n) number old, live_parts-same n (omega arith)) refl
      ]

  -- an address of another partition
  other_part : (j k : ℕ) → Owns b count j → j ≢ d → k < part_bytes (inode b j).level → c ((inode b j).base + k) ≡ b ((inode b j).base + k)
  other_part j k owns other lt =
      let low : 10 * 2 ^ 39 ≤ (inode b j).base = elim (m.space.placed j owns.live).place [ inl none ↦ absurd (omega (arith, none.level, owns.level)) | inr r ↦ r.part.low ] in
      m.others ((inode b j).base + k) (inr (omega (arith, low, m.number.to, m.space.few))) (inr (omega (arith, low, m.owns.live.number.to, m.space.few))) (elim (m.space.apart j d owns m.owns other) [
        | inl before ↦ inl (omega (arith, before, lt))
        | inr after ↦ inr (omega (arith, after, m.fits))
      ])

  -- a byte of the directory outside the slot
  dir_byte : (k : ℕ) → k < part_bytes (inode b d).level → (k < o) ⊎ (o + 256 ≤ k) → c ((inode b d).base + k) ≡ b ((inode b d).base + k)
  dir_byte k lt off =
      m.others ((inode b d).base + k) (inr (omega (arith, room.part.low, m.number.to, m.space.few))) (inr (omega (arith, room.part.low, m.owns.live.number.to, m.space.few)))
      (elim off [ inl before ↦ inl (omega arith) | inr after ↦ inr (omega arith) ])

  -- the new size is the old one, or ends with the slot
  size_is : ((inode c d).size ≡ (inode b d).size) × (o + 256 ≤ (inode b d).size) ⊎ (((inode c d).size ≡ o + 256) × (o ≡ (inode b d).size))
  size_is =
      let whole = (m.space.placed d m.owns.live).slots m.dir in
      elim (cases_lt (inode b d).size (o + 256)) [
        | inl short ↦ inr (omega (arith, m.grown, max_right (inode b d).size (o + 256) (omega arith)), omega (arith, whole, m.aligned, m.low))
        | inr long ↦ inl (omega (arith, m.grown, max_left (inode b d).size (o + 256) long), long)
      ]
    where
      max_right : (p q : ℕ) → p ≤ q → max p q ≡ q
      max_right p q le = omega (arith, le)

      max_left : (p q : ℕ) → q ≤ p → max p q ≡ p
      max_left p q le = omega (arith, le)

  inodes_stay : AreInodes c count
  inodes_stay j number = elim (cases_eq j i) [
    | inl new ↦ record {
      kind = omega (arith, ap (λ k. (inode c k).kind) new, kind_few m.kind);
      free = λ k lt z. absurd (kind_some m.kind (sym (ap (λ n. (inode c n).kind) new) ∙ z));
      spare = λ k four lt. ap (λ n. inode_word c n k) new ∙ m.spare k four lt;
      root = λ first. absurd (omega (arith, (m.space.inodes j number).root first, ap (λ n. (inode b n).kind) new, m.free));
    }
    | inr old ↦
        let was = m.space.inodes j number in
        record {
          kind = omega (arith, kind-same j number old, was.kind);
          free = λ k lt z. elim (cases_eq j d) [
            | inl here ↦ absurd (omega (arith, z, kind-same j number old, ap (λ n. (inode b n).kind) here, m.dir))
            | inr there ↦ word-same j k number lt old (λ here. absurd (there here)) ∙ was.free k lt (sym (kind-same j number old) ∙ z)
          ];
          spare = λ k four lt. word-same j k number lt old (λ here. omega arith) ∙ was.spare k four lt;
          root = λ first. kind-same j number old ∙ was.root first;
        }
  ]
    where
      kind_few : ((inode c i).kind ≡ 1) ⊎ ((inode c i).kind ≡ 2) → (inode c i).kind ≤ 2
      kind_few (inl is) = omega (arith, is)
      kind_few (inr is) = omega (arith, is)

      kind_some : ((inode c i).kind ≡ 1) ⊎ ((inode c i).kind ≡ 2) → (inode c i).kind ≡ 0 → ⊥
      kind_some (inl is) z = omega (arith, is, z)
      kind_some (inr is) z = omega (arith, is, z)

  placed_stay : ArePlaced c count
  placed_stay j live = elim (cases_eq j i) [
    | inl new ↦
        let size : (inode c j).size ≡ 0 = ap (λ n. (inode c n).size) new ∙ m.size in
        record {
          place = inl (record { level = ap (λ n. (inode c n).level) new ∙ m.level; base = ap (λ n. (inode c n).base) new ∙ m.base; size = size });
          slots = λ is. ap (λ k. k % 256) size;
        }
    | inr old ↦
        let number = live.number in
        let was = m.space.placed j (live_back j old live) in
        elim (cases_eq j d) [
          | inl here ↦
              let now : (inode c j).size ≡ (inode c d).size = ap (λ n. (inode c n).size) here in
              let whole = (m.space.placed d m.owns.live).slots m.dir in
              record {
                place = inr (record {
                  part = subst IsPart (sym (part-same j number old)) (subst (λ n. IsPart (part_of b n)) (sym here) room.part);
                  size = omega (arith, now, size_fits, ap (λ l. 8 ^ l) (level-same j number old ∙ ap (λ n. (inode b n).level) here));
                });
                slots = λ is. ap (λ k. k % 256) now ∙ size_whole;
              }
          | inr there ↦
              let size = size-same j number old there in
              record {
                place = elim was.place [
                  | inl none ↦ inl (record { level = level-same j number old ∙ none.level; base = base-same j number old ∙ none.base; size = size ∙ none.size })
                  | inr r ↦ inr (record { part = subst IsPart (sym (part-same j number old)) r.part; size = omega (arith, size, r.size, ap (λ l. 8 ^ l) (level-same j number old)) })
                ];
                slots = λ is. ap (λ k. k % 256) size ∙ was.slots (sym (kind-same j number old) ∙ is);
              }
        ]
  ]
    where
      size_fits : (inode c d).size ≤ part_bytes (inode b d).level
      size_fits = elim size_is [ inl kept ↦ omega (arith, kept.0, room.size) | inr more ↦ omega (arith, more.0, m.fits) ]

      size_whole : (inode c d).size % 256 ≡ 0
      size_whole =
          let whole = (m.space.placed d m.owns.live).slots m.dir in
          elim size_is [ inl kept ↦ omega (arith, kept.0, whole) | inr more ↦ omega (arith, more.0, m.aligned) ]

  apart_stay : ArePartsApart c count
  apart_stay j k p q other =
      let apart_was = m.space.apart j k (owns_back j p) (owns_back k q) other in
      subst (λ y. AreApart y (part_of c k)) (sym (part-same j p.live.number (owns_old j p))) (subst (λ y. AreApart (part_of b j) y) (sym (part-same k q.live.number (owns_old k q))) apart_was)

  -- past the new size the directory has zeros
  dir_tail : (k : ℕ) → (inode c d).size ≤ k → k < part_bytes (inode b d).level → c ((inode b d).base + k) ≡ 0
  dir_tail k le lt = elim size_is [
    | inl kept ↦ dir_byte k lt (inr (omega (arith, kept.0, kept.1, le))) ∙ m.space.tails d m.owns k (omega (arith, kept.0, le)) lt
    | inr more ↦ dir_byte k lt (inr (omega (arith, more.0, le))) ∙ m.space.tails d m.owns k (omega (arith, more.0, more.1, le)) lt
  ]

  tails_stay : AreTailsZero c count
  tails_stay j p k le lt =
      let number = p.live.number in
      let old = owns_old j p in
      let q = owns_back j p in
      let width = ap (λ l. 8 ^ l) (level-same j number old) in
      ap (λ v. c (v + k)) (base-same j number old) ∙ elim (cases_eq j d) [
        | inl here ↦
            let wide = ap (λ n. 8 ^ (inode b n).level) here in
            ap (λ n. c ((inode b n).base + k)) here ∙ dir_tail k (omega (arith, le, ap (λ n. (inode c n).size) here)) (omega (arith, lt, width, wide))
        | inr there ↦
            other_part j k q there (omega (arith, lt, width)) ∙ m.space.tails j q k (omega (arith, le, size-same j number old there)) (omega (arith, lt, width))
      ]

  headers_stay : AreHeaders c count
  headers_stay =
      let new_low : 64 * i + 64 ≤ 2 ^ 39 = omega (arith, m.number.to, m.space.few) in
      let dir_low : 64 * d + 16 ≤ 2 ^ 39 = omega (arith, m.owns.live.number.to, m.space.few) in
      subst (λ ps. HeadersStand c ps) (sym (live_parts-same count (omega arith))) (record {
        bytes = λ n j few lt. let r = place_bounds n j few lt in low_same (byte_place n j) (omega (arith, r.1)) (inr (omega (arith, r.0))) (inr (omega (arith, r.0))) ∙ m.space.headers.bytes n j few lt;
        rest = λ v from to out. low_same v (omega arith) (inr (omega arith)) (inr (omega arith)) ∙ m.space.headers.rest v from to out;
      })

  rest_stay : IsRestZero c count
  rest_stay v lt out =
      let from = m.number.from in
      let to = m.number.to in
      let dir_from = m.owns.live.number.from in
      let dir_to = m.owns.live.number.to in
      low_same v (omega arith) (elim out [ inl l ↦ inl (omega (arith, from)) | inr r ↦ inr (omega (arith, to)) ])
      (elim out [ inl l ↦ inl (omega (arith, dir_from)) | inr r ↦ inr (omega (arith, dir_to)) ]) ∙ m.space.rest v lt out

  pub entry_space : HasSpace c count
  entry_space = record { few = m.space.few; inodes = inodes_stay; placed = placed_stay; apart = apart_stay; tails = tails_stay; headers = headers_stay; rest = rest_stay }

  -- ---- objects

  now_at : objects c count d ≡ object c d
  now_at = objects-in c count d m.owns.live.number

  was_at : objects b count d ≡ object b d
  was_at = objects-in b count d m.owns.live.number

  new_at : objects c count i ≡ object c i
  new_at = objects-in c count i m.number

  free_at : objects b count i ≡ object b i
  free_at = objects-in b count i m.number

  other_object : (j : ℕ) → IsNumber count j → j ≢ d → j ≢ i → SameObject b c j
  other_object j number there old =
      record {
        kind = kind-same j number old;
        size = size-same j number old there;
        bytes = λ k lt. ap (λ v. c (v + k)) (base-same j number old) ∙ elim (cases_eq (inode b j).kind 0) [
          | inl unused ↦ absurd (omega (arith, lt, (m.space.inodes j number).free 1 (omega arith) unused))
          | inr used ↦
              let live : IsLive b count j = record { number = number; used = used } in
              elim (m.space.placed j live).place [
                | inl none ↦ absurd (omega (arith, lt, none.size))
                | inr r ↦ other_part j k (record { live = live; level = r.part.level }) there (omega (arith, lt, r.size))
              ]
        ];
      }

  others_stay : (j : ℕ) → j ≢ d → j ≢ i → objects c count j ≡ objects b count j
  others_stay j there old = elim (objects-cases b count j) [
    | inl k ↦ objects-in c count j k.0 ∙ object-same (other_object j k.0 there old) ∙ sym k.1
    | inr k ↦ elim (objects-cases c count j) [ inl l ↦ absurd (k.0 l.0) | inr l ↦ l.1 ∙ sym k.1 ]
  ]

  size_more : (inode b d).size ≤ (inode c d).size
  size_more = elim size_is [ inl kept ↦ omega (arith, kept.0) | inr more ↦ omega (arith, more.0, more.1) ]

  slot_in : o + 256 ≤ (inode c d).size
  slot_in = elim size_is [ inl kept ↦ omega (arith, kept.0, kept.1) | inr more ↦ omega (arith, more.0) ]

  -- a byte of the slot
  slot_byte : (k : ℕ) → k < 256 → (object c d).at (o + k) ≡ c ((inode b d).base + o + k)
  slot_byte k lt =
      content-at c (inode c d).base (inode c d).size (o + k) (omega (arith, slot_in, lt))
      ∙ ap (λ v. c (v + (o + k))) (base-same d m.owns.live.number apart) ∙ ap c (omega arith)

  slot_child : slot_inode (object c d) o ≡ i
  slot_child = little-same c (object c d).at ((inode b d).base + o) o 4 (λ k lt. slot_byte k (omega (arith, lt))) ∙ m.filled.child

  slot_long : slot_length (object c d) o ≡ length x
  slot_long = little-same c (object c d).at ((inode b d).base + o + 4) (o + 4) 4 (λ k lt. ap (object c d).at (omega arith) ∙ slot_byte (4 + k) (omega (arith, lt)) ∙ ap c (omega arith)) ∙ m.filled.long

  slot_is : (few : length x ≤ 248) → slot_name (object c d) o ≡ x
  slot_is few =
      ap (λ n. bytes_from (object c d).at (o + 8) n) slot_long
      ∙ bytes_from-same c (object c d).at ((inode b d).base + o + 8) (o + 8) (length x) (λ k lt. ap (object c d).at (omega arith) ∙ slot_byte (8 + k) (omega (arith, lt, few)) ∙ ap c (omega arith)) ∙ m.filled.name

  slot_used : little (object c d).at o 256 ≢ 0
  slot_used z = m.filled.used (sym (little-same c (object c d).at ((inode b d).base + o) o 256 (λ k lt. slot_byte k lt)) ∙ z)

  is_slot : IsSlot (object c d) o
  is_slot = record { dir = kind-same d m.owns.live.number apart ∙ m.dir; below = omega (arith, slot_in); aligned = m.aligned; used = slot_used }

  -- a byte of another slot stays
  kept_byte : (k n : ℕ) → k % 256 ≡ 0 → k ≢ o → n < 256 → (object c d).at (k + n) ≡ (object b d).at (k + n)
  kept_byte k n whole other lt =
      let off : (k + n < o) ⊎ (o + 256 ≤ k + n) = elim (cases_lt k o) [ inl before ↦ inl (omega (arith, whole, m.aligned)) | inr after ↦ inr (omega (arith, whole, m.aligned)) ] in
      elim (cases_lt (k + n) (inode c d).size) [
        | inr past ↦ content-past c (inode c d).base (inode c d).size (k + n) past ∙ sym (content-past b (inode b d).base (inode b d).size (k + n) (omega (arith, past, size_more)))
        | inl below ↦
            let in_part : k + n < part_bytes (inode b d).level = elim size_is [ inl kept ↦ omega (arith, below, kept.0, room.size) | inr more ↦ omega (arith, below, more.0, m.fits) ] in
            content-at c (inode c d).base (inode c d).size (k + n) below ∙ ap (λ v. c (v + (k + n))) (base-same d m.owns.live.number apart) ∙ dir_byte (k + n) in_part off
            ∙ elim (cases_lt (k + n) (inode b d).size) [
              | inl was ↦ sym (content-at b (inode b d).base (inode b d).size (k + n) was)
              | inr new ↦ m.space.tails d m.owns (k + n) new in_part ∙ sym (content-past b (inode b d).base (inode b d).size (k + n) new)
            ]
      ]

  -- what the directory and the name are before
  pub record IsNew : Type 0 where
    pub entries : AreEntries (objects b count)
    pub apart : AreNamesApart (objects b count)
    pub named : AreNamed (objects b count)
    pub reached : AreReached (objects b count)
    pub root : (objects b count 1).kind ≡ 2
    pub unused : IsSlot (objects b count d) o → ⊥
    pub name : is_name x ≡ true
    pub few : length x ≤ 248
    pub fresh : (k : ℕ) → IsSlot (objects b count d) k → slot_name (objects b count d) k ≢ x

  pub entry_adds : IsNew → Adds (objects b count) (objects c count) d o i x
  entry_adds n = record {
    entries = n.entries;
    apart = n.apart;
    named = n.named;
    reached = n.reached;
    root = n.root;
    was = ap (λ (f : Object). f.kind) was_at ∙ m.dir;
    is = ap (λ (f : Object). f.kind) now_at ∙ kind-same d m.owns.live.number apart ∙ m.dir;
    free = ap (λ (f : Object). f.kind) free_at ∙ m.free;
    made = λ z. elim m.kind [ inl one ↦ omega (arith, z, ap (λ (f : Object). f.kind) new_at, one) | inr two ↦ omega (arith, z, ap (λ (f : Object). f.kind) new_at, two) ];
    empty = ap (λ (f : Object). f.size) new_at ∙ m.size;
    others = others_stay;
    room = omega (arith, ap (λ (f : Object). f.size) was_at, ap (λ (f : Object). f.size) now_at, size_more);
    past = λ k le. ap (λ (f : Object). f.at k) was_at ∙ content-past b (inode b d).base (inode b d).size k (omega (arith, le, ap (λ (f : Object). f.size) was_at));
    whole = ap (λ (f : Object). f.size % 256) was_at ∙ (m.space.placed d m.owns.live).slots m.dir;
    slot = subst (λ f. IsSlot f o) (sym now_at) is_slot;
    child = ap (λ f. slot_inode f o) now_at ∙ slot_child;
    name = ap (λ f. slot_name f o) now_at ∙ slot_is n.few;
    entry = record {
      live = λ z. elim m.kind [ inl one ↦ omega (arith, one, child_kind, z) | inr two ↦ omega (arith, two, child_kind, z) ];
      length = omega (arith, ap (λ f. slot_length f o) now_at, slot_long, n.few);
      name = ap is_name (ap (λ f. slot_name f o) now_at ∙ slot_is n.few) ∙ n.name;
      padding = λ k le lt. ap (λ (f : Object). f.at (o + k)) now_at ∙ slot_byte k lt ∙ m.filled.padding k (omega (arith, le, ap (λ f. slot_length f o) now_at, slot_long)) lt;
    };
    unused = n.unused;
    kept = λ k j whole other lt. ap (λ (f : Object). f.at (k + j)) now_at ∙ kept_byte k j whole other lt ∙ sym (ap (λ (f : Object). f.at (k + j)) was_at);
    fresh = n.fresh;
  }
    where
      child_kind : (objects c count (slot_inode (objects c count d) o)).kind ≡ (inode c i).kind
      child_kind = ap (λ f. (objects c count (slot_inode f o)).kind) now_at ∙ ap (λ j. (objects c count j).kind) slot_child ∙ ap (λ (f : Object). f.kind) new_at
