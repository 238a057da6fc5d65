-- The bytes of one file change inside its partition, and its size.
use Rattle.std.proofs.Common.{◌≡◌, ◌≢◌, ℕ, zero, suc, ◌+◌, ◌*◌, ◌%◌, ◌^◌, ◌<◌, ◌≤◌, refl, sym, ap, ◌∙◌, subst, ◌⊎◌, inl, inr, arith}
use Rattle.std.specs.Prelude.{◌==◌, nat_le, not, ◌&&◌}
use Rattle.std.proofs.lemmas.Bool.{cases_eq, cases_lt}
use Rattle.ct_base.specs.Inode.{inode, inode_word, IsNumber, IsLive, part_bytes, IsIn, IsPart, AreApart, has_part, live_parts}
use Rattle.ct_base.specs.Objects.{Object, objects}
use Rattle.ct_base.specs.Headers.{HeadersStand, byte_place}
use Rattle.ct_parts.proofs.Stand.{place_bounds}
use Rattle.ct_base.specs.Rules.{AreInodes, HasRoom, ArePlaced, Owns, part_of, ArePartsApart, AreTailsZero, AreHeaders, IsRestZero}
use Rattle.ct_state.proofs.Bytes.{little-same, objects-cases, objects-in, SameObject, object-same}
use Rattle.ct_state.proofs.Written.{Written}

-- the rules that speak of bytes by address
pub record HasSpace (b : ℕ → ℕ) (count : ℕ) : Type 0 where
  pub few : count ≤ 1048576
  pub inodes : AreInodes b count
  pub placed : ArePlaced b count
  pub apart : ArePartsApart b count
  pub tails : AreTailsZero b count
  pub headers : AreHeaders b count
  pub rest : IsRestZero b count

pub record WritesFile (b c : ℕ → ℕ) (count i : ℕ) : Type 0 where
  pub space : HasSpace b count
  pub owns : Owns b count i
  pub file : (inode b i).kind ≡ 1
  pub others : (v : ℕ) → (IsIn (part_of b i) v → ⊥) → (v < 64 * i + 8) ⊎ (64 * i + 16 ≤ v) → c v ≡ b v
  pub fits : (inode c i).size ≤ part_bytes (inode b i).level
  pub tail : (k : ℕ) → (inode c i).size ≤ k → k < part_bytes (inode b i).level → c ((inode b i).base + k) ≡ 0

module _ {b c : ℕ → ℕ} {count i : ℕ} (w : WritesFile b c count i) where
  room : HasRoom (inode b i)
  room = elim (w.space.placed i w.owns.live).place [ inl none ↦ absurd (omega (arith, none.level, w.owns.level)) | inr r ↦ r ]

  -- nothing below root slot 10 changes but the size
  low_same : (v : ℕ) → v < 10 * 2 ^ 39 → (v < 64 * i + 8) ⊎ (64 * i + 16 ≤ v) → c v ≡ b v
  low_same v low off = w.others v (λ inside. omega (arith, inside.from, room.part.low)) off

  word-same : (j k : ℕ) → IsNumber count j → k < 8 → (j ≡ i → k ≢ 1) → inode_word c j k ≡ inode_word b j k
  word-same j k number lt other =
      little-same b c (64 * j + 8 * k) (64 * j + 8 * k) 8 (λ m small. low_same (64 * j + 8 * k + m) (omega (arith, number.to, w.space.few)) (
      elim (cases_lt (64 * j + 8 * k + m) (64 * i + 8)) [
        | inl lower ↦ inl lower
        | inr up ↦ inr (elim (cases_eq j i) [ inl here ↦ let not_size : k ≢ 1 = other here in omega arith | inr there ↦ omega arith ])
      ]))

  kind-same : (j : ℕ) → IsNumber count j → (inode c j).kind ≡ (inode b j).kind
  kind-same j number = word-same j 0 number (omega arith) (λ here. omega arith)

  size-same : (j : ℕ) → IsNumber count j → j ≢ i → (inode c j).size ≡ (inode b j).size
  size-same j number other = word-same j 1 number (omega arith) (λ here. absurd (other here))

  base-same : (j : ℕ) → IsNumber count j → (inode c j).base ≡ (inode b j).base
  base-same j number = word-same j 2 number (omega arith) (λ here. omega arith)

  level-same : (j : ℕ) → IsNumber count j → (inode c j).level ≡ (inode b j).level
  level-same j number = word-same j 3 number (omega arith) (λ here. omega arith)

  pub part-same : (j : ℕ) → IsNumber count j → part_of c j ≡ part_of b j
  part-same j number = let p = base-same j number in let q = level-same j number in λ e. record { base = p e; level = q e }

  live_back : (j : ℕ) → IsLive c count j → IsLive b count j
  live_back j live = record { number = live.number; used = λ z. live.used (kind-same j live.number ∙ z) }

  pub owns_back : (j : ℕ) → Owns c count j → Owns b count j
  owns_back j owns = record { live = live_back j owns.live; level = omega (arith, owns.level, level-same j owns.live.number) }

  pub owns_on : (j : ℕ) → Owns b count j → Owns c count j
  owns_on j owns =
      let number = owns.live.number in
      record { live = record { number = number; used = λ z. owns.live.used (sym (kind-same j number) ∙ z) }; level = omega (arith, owns.level, level-same j number) }

  has_part-same : (j : ℕ) → IsNumber count j → has_part (inode c j) ≡ has_part (inode b j)
  has_part-same j number = ap (λ k. not (k == 0) && nat_le (inode c j).level 9) (kind-same j number) ∙ ap (λ l. not ((inode b j).kind == 0) && nat_le l 9) (level-same j number)

  live_parts-same : (m : ℕ) → m ≤ count → live_parts c m ≡ live_parts b m
  unfolding live_parts
  live_parts-same zero le = refl
  live_parts-same (suc m) le =
      let number : IsNumber count (suc m) = record { from = omega arith; to = le } in
      rw (has_part-same (suc m) number, part-same (suc m) number, live_parts-same m (omega arith)) refl

  -- an address of another partition
  other_part : (j k : ℕ) → Owns b count j → j ≢ i → k < part_bytes (inode b j).level → c ((inode b j).base + k) ≡ b ((inode b j).base + k)
  other_part j k owns other lt =
      let low : 10 * 2 ^ 39 ≤ (inode b j).base = elim (w.space.placed j owns.live).place [ inl none ↦ absurd (omega (arith, none.level, owns.level)) | inr r ↦ r.part.low ] in
      w.others ((inode b j).base + k) (λ inside. elim (w.space.apart j i owns w.owns other) [
        | inl before ↦ omega (arith, before, inside.from)
        | inr after ↦ omega (arith, after, inside.to)
      ]) (inr (omega (arith, low, w.owns.live.number.to, w.space.few)))

  inodes_stay : AreInodes c count
  inodes_stay j number =
      let was = w.space.inodes j number in
      record {
        kind = omega (arith, kind-same j number, was.kind);
        free = λ k lt z. elim (cases_eq j i) [
          | inl here ↦ absurd (omega (arith, z, kind-same j number, ap (λ m. (inode b m).kind) here, w.file))
          | inr there ↦ word-same j k number lt (λ here. absurd (there here)) ∙ was.free k lt (sym (kind-same j number) ∙ z)
        ];
        spare = λ k four lt. word-same j k number lt (λ here. omega arith) ∙ was.spare k four lt;
        root = λ first. kind-same j number ∙ was.root first;
      }

  placed_stay : ArePlaced c count
  placed_stay j live =
      let number = live.number in
      let was = w.space.placed j (live_back j live) in
      elim (cases_eq j i) [
        | inl here ↦ record {
          place = inr (record {
            part = subst IsPart (sym (part-same j number)) (subst (λ m. IsPart (part_of b m)) (sym here) room.part);
            size = omega (arith, ap (λ m. (inode c m).size) here, w.fits, ap (λ l. 8 ^ l) (level-same j number ∙ ap (λ m. (inode b m).level) here));
          });
          slots = λ dir. absurd (omega (arith, dir, kind-same j number, ap (λ m. (inode b m).kind) here, w.file));
        }
        | inr there ↦
            let size = size-same j number there in
            record {
              place = elim was.place [
                | inl none ↦ inl (record { level = level-same j number ∙ none.level; base = base-same j number ∙ none.base; size = size ∙ none.size })
                | inr r ↦ inr (record { part = subst IsPart (sym (part-same j number)) r.part; size = omega (arith, size, r.size, ap (λ l. 8 ^ l) (level-same j number)) })
              ];
              slots = λ dir. ap (λ k. k % 256) size ∙ was.slots (sym (kind-same j number) ∙ dir);
            }
      ]

  apart_stay : ArePartsApart c count
  apart_stay j k p q other =
      let apart = w.space.apart j k (owns_back j p) (owns_back k q) other in
      subst (λ x. AreApart x (part_of c k)) (sym (part-same j p.live.number)) (subst (λ x. AreApart (part_of b j) x) (sym (part-same k q.live.number)) apart)

  tails_stay : AreTailsZero c count
  tails_stay j p k le lt =
      let number = p.live.number in
      let q = owns_back j p in
      let width = ap (λ l. 8 ^ l) (level-same j number) in
      ap (λ v. c (v + k)) (base-same j number) ∙ elim (cases_eq j i) [
        | inl here ↦
            let wide = ap (λ m. 8 ^ (inode b m).level) here in
            ap (λ m. c ((inode b m).base + k)) here ∙ w.tail k (omega (arith, le, ap (λ m. (inode c m).size) here)) (omega (arith, lt, width, wide))
        | inr there ↦
            other_part j k q there (omega (arith, lt, width)) ∙ w.space.tails j q k (omega (arith, le, size-same j number there)) (omega (arith, lt, width))
      ]

  headers_stay : AreHeaders c count
  headers_stay =
      let past : 64 * i + 16 ≤ 2 ^ 39 = omega (arith, w.owns.live.number.to, w.space.few) in
      subst (λ ps. HeadersStand c ps) (sym (live_parts-same count (omega arith))) (record {
        bytes = λ n j few lt. let r = place_bounds n j few lt in low_same (byte_place n j) (omega (arith, r.1)) (inr (omega (arith, r.0))) ∙ w.space.headers.bytes n j few lt;
        rest = λ v from to out. low_same v (omega arith) (inr (omega arith)) ∙ w.space.headers.rest v from to out;
      })

  rest_stay : IsRestZero c count
  rest_stay v lt out =
      let from = w.owns.live.number.from in
      let to = w.owns.live.number.to in
      low_same v (omega arith) (elim out [ inl l ↦ inl (omega (arith, from)) | inr r ↦ inr (omega (arith, to)) ]) ∙ w.space.rest v lt out

  pub space_stays : HasSpace c count
  space_stays = record { few = w.space.few; inodes = inodes_stay; placed = placed_stay; apart = apart_stay; tails = tails_stay; headers = headers_stay; rest = rest_stay }

  -- the other objects stay
  other_object : (j : ℕ) → IsNumber count j → j ≢ i → SameObject b c j
  other_object j number there =
      record {
        kind = kind-same j number;
        size = size-same j number there;
        bytes = λ k lt. ap (λ v. c (v + k)) (base-same j number) ∙ elim (cases_eq (inode b j).kind 0) [
          | inl unused ↦ absurd (omega (arith, lt, (w.space.inodes j number).free 1 (omega arith) unused))
          | inr used ↦
              let live : IsLive b count j = record { number = number; used = used } in
              elim (w.space.placed j live).place [
                | inl none ↦ absurd (omega (arith, lt, none.size))
                | inr r ↦ other_part j k (record { live = live; level = r.part.level }) there (omega (arith, lt, r.size))
              ]
        ];
      }

  pub written : Written (objects b count) (objects c count) i
  written =
      let number = w.owns.live.number in
      record {
        others = λ j there. elim (objects-cases b count j) [
          | inl k ↦ objects-in c count j k.0 ∙ object-same (other_object j k.0 there) ∙ sym k.1
          | inr k ↦ elim (objects-cases c count j) [ inl l ↦ absurd (k.0 l.0) | inr l ↦ l.1 ∙ sym k.1 ]
        ];
        was = ap (λ (f : Object). f.kind) (objects-in b count i number) ∙ w.file;
        is = ap (λ (f : Object). f.kind) (objects-in c count i number) ∙ kind-same i number ∙ w.file;
      }
