-- An object moves to a larger partition: it keeps its bytes, and every object stays.
use Rattle.std.proofs.Common.{◌≡◌, ◌≢◌, ℕ, ◌+◌, ◌*◌, ◌%◌, ◌^◌, ◌<◌, ◌≤◌, true, List, sym, ap, ◌∙◌, subst, ◌⊎◌, inl, inr, arith}
use Rattle.std.specs.Prelude.{◌==◌, nat_le, not, ◌&&◌}
use Rattle.std.proofs.lemmas.Bool.{cases_eq, cases_lt, cases_Bool, and_from, le-leb, ne_eqb, false≢true}
use Rattle.ct_base.specs.Inode.{inode, inode_word, IsNumber, IsLive, Partition, part_bytes, IsIn, IsPart, AreApart, has_part, live_parts}
use Rattle.ct_base.specs.Objects.{objects}
use Rattle.ct_base.specs.Headers.{is_one, HeadersStand}
use Rattle.ct_base.specs.Rules.{AreInodes, ArePlaced, Owns, part_of, ArePartsApart, AreTailsZero, IsRestZero}
use Rattle.ct_state.proofs.Bytes.{little-same, objects-same}
use Rattle.ct_state.proofs.Write.{HasSpace}
use Rattle.ct_parts.proofs.Stand.{stand-same}
use Rattle.ct_state.proofs.Owners.{Owner, owner_of, owner_one}

pub record Grows (b c : ℕ → ℕ) (count i : ℕ) (new : Partition) (qs : List Partition) : Type 0 where
  pub space : HasSpace b count
  pub live : IsLive b count i
  pub is_part : IsPart new
  pub free : (j : ℕ) → Owns b count j → AreApart new (part_of b j)
  pub fits : (inode b i).size ≤ part_bytes new.level
  pub base : (inode c i).base ≡ new.base
  pub level : (inode c i).level ≡ new.level
  pub low : (v : ℕ) → v < 2 ^ 39 → (v < 64 * i + 16) ⊎ (64 * i + 32 ≤ v) → c v ≡ b v
  pub moved : (k : ℕ) → k < (inode b i).size → c (new.base + k) ≡ b ((inode b i).base + k)
  pub tail : (k : ℕ) → (inode b i).size ≤ k → k < part_bytes new.level → c (new.base + k) ≡ 0
  pub others : (v : ℕ) → 10 * 2 ^ 39 ≤ v → (IsIn new v → ⊥) → (Owns b count i → IsIn (part_of b i) v → ⊥) → c v ≡ b v
  -- the headers stand for the list with the one and without the other
  pub headers : HeadersStand c qs
  pub listed : (n j : ℕ) → n ≡ new.level → new.base ≡ j * part_bytes n → is_one qs n j ≡ true
  pub kept : (n j : ℕ) → (o : Owner b count n j) → o.inode_number ≢ i → is_one qs n j ≡ true
  pub back : (n j : ℕ) → is_one qs n j ≡ true → ((n ≡ new.level) × (new.base ≡ j * part_bytes n)) ⊎ ((o : Owner b count n j) × (o.inode_number ≢ i))

module _ {b c : ℕ → ℕ} {count i : ℕ} {new : Partition} {qs : List Partition} (g : Grows b c count i new qs) where
  word-same : (j k : ℕ) → IsNumber count j → k < 8 → (j ≡ i → k ≢ 2) → (j ≡ i → k ≢ 3) → inode_word c j k ≡ inode_word b j k
  word-same j k number lt p q =
      little-same b c (64 * j + 8 * k) (64 * j + 8 * k) 8 (λ m small. g.low (64 * j + 8 * k + m) (omega (arith, number.to, g.space.few)) (
      elim (cases_lt (64 * j + 8 * k + m) (64 * i + 16)) [
        | inl lower ↦ inl lower
        | inr up ↦ inr (elim (cases_eq j i) [
          | inl here ↦ let not_base : k ≢ 2 = p here in let not_level : k ≢ 3 = q here in omega arith
          | inr there ↦ omega arith
        ])
      ]))

  kind-same : (j : ℕ) → IsNumber count j → (inode c j).kind ≡ (inode b j).kind
  kind-same j number = word-same j 0 number (omega arith) (λ here. omega arith) (λ here. omega arith)

  size-same : (j : ℕ) → IsNumber count j → (inode c j).size ≡ (inode b j).size
  size-same j number = word-same j 1 number (omega arith) (λ here. omega arith) (λ here. omega arith)

  base-same : (j : ℕ) → IsNumber count j → j ≢ i → (inode c j).base ≡ (inode b j).base
  base-same j number other = word-same j 2 number (omega arith) (λ here. absurd (other here)) (λ here. absurd (other here))

  level-same : (j : ℕ) → IsNumber count j → j ≢ i → (inode c j).level ≡ (inode b j).level
  level-same j number other = word-same j 3 number (omega arith) (λ here. absurd (other here)) (λ here. absurd (other here))

  part-same : (j : ℕ) → IsNumber count j → j ≢ i → part_of c j ≡ part_of b j
  part-same j number other = let p = base-same j number other in let q = level-same j number other in λ e. record { base = p e; level = q e }

  part-new : part_of c i ≡ new
  part-new = let p = g.base in let q = g.level in λ e. record { base = p e; level = q e }

  live_back : (j : ℕ) → IsLive c count j → IsLive b count j
  live_back j live = record { number = live.number; used = λ z. live.used (kind-same j live.number ∙ z) }

  owns_back : (j : ℕ) → j ≢ i → Owns c count j → Owns b count j
  owns_back j other owns = record { live = live_back j owns.live; level = omega (arith, owns.level, level-same j owns.live.number other) }

  inodes_stay : AreInodes c count
  inodes_stay j number =
      let was = g.space.inodes j number in
      record {
        kind = omega (arith, kind-same j number, was.kind);
        free = λ k lt z. elim (cases_eq j i) [
          | inl here ↦ absurd (g.live.used (ap (λ m. (inode b m).kind) (sym here) ∙ sym (kind-same j number) ∙ z))
          | inr there ↦ word-same j k number lt (λ here. absurd (there here)) (λ here. absurd (there here)) ∙ was.free k lt (sym (kind-same j number) ∙ z)
        ];
        spare = λ k four lt. word-same j k number lt (λ here. omega arith) (λ here. omega arith) ∙ was.spare k four lt;
        root = λ first. kind-same j number ∙ was.root first;
      }

  placed_stay : ArePlaced c count
  placed_stay j live =
      let number = live.number in
      let was = g.space.placed j (live_back j live) in
      let size = size-same j number in
      record {
        place = elim (cases_eq j i) [
          | inl here ↦ inr (record {
            part = subst (λ m. IsPart (part_of c m)) (sym here) (subst IsPart (sym part-new) g.is_part);
            size = omega (arith, size, ap (λ m. (inode b m).size) here, g.fits, ap (λ m. 8 ^ (inode c m).level) here, ap (λ l. 8 ^ l) g.level);
          })
          | inr there ↦ elim was.place [
            | inl none ↦ inl (record { level = level-same j number there ∙ none.level; base = base-same j number there ∙ none.base; size = size ∙ none.size })
            | inr r ↦ inr (record { part = subst IsPart (sym (part-same j number there)) r.part; size = omega (arith, size, r.size, ap (λ l. 8 ^ l) (level-same j number there)) })
          ]
        ];
        slots = λ dir. ap (λ k. k % 256) size ∙ was.slots (sym (kind-same j number) ∙ dir);
      }

  new_apart : (j : ℕ) → j ≢ i → Owns c count j → AreApart new (part_of c j)
  new_apart j other owns = subst (λ q. AreApart new q) (sym (part-same j owns.live.number other)) (g.free j (owns_back j other owns))

  apart_stay : ArePartsApart c count
  apart_stay j k p q other = elim (cases_eq j i) [
    | inl here ↦
        let there : k ≢ i = λ is. other (here ∙ sym is) in
        subst (λ r. AreApart r (part_of c k)) (sym (ap (part_of c) here ∙ part-new)) (new_apart k there q)
    | inr there ↦ elim (cases_eq k i) [
      | inl here ↦ subst (λ r. AreApart (part_of c j) r) (sym (ap (part_of c) here ∙ part-new)) (elim (new_apart j there p) [ inl l ↦ inr l | inr r ↦ inl r ])
      | inr there' ↦
          subst (λ r. AreApart r (part_of c k)) (sym (part-same j p.live.number there)) (subst (λ r. AreApart (part_of b j) r) (sym (part-same k q.live.number there')) (
          g.space.apart j k (owns_back j there p) (owns_back k there' q) other))
    ]
  ]

  -- an address of another partition
  other_part : (j k : ℕ) → Owns b count j → j ≢ i → k < part_bytes (inode b j).level → c ((inode b j).base + k) ≡ b ((inode b j).base + k)
  other_part j k owns other lt =
      let low : 10 * 2 ^ 39 ≤ (inode b j).base = elim (g.space.placed j owns.live).place [ inl none ↦ absurd (omega (arith, none.level, owns.level)) | inr r ↦ r.part.low ] in
      g.others ((inode b j).base + k) (omega (arith, low))
      (λ inside. elim (g.free j owns) [ inl before ↦ omega (arith, before, inside.to) | inr after ↦ omega (arith, after, inside.from) ])
      (λ owns_i inside. elim (g.space.apart j i owns owns_i other) [ inl before ↦ omega (arith, before, inside.from) | inr after ↦ omega (arith, after, inside.to) ])

  tails_stay : AreTailsZero c count
  tails_stay j p k le lt = elim (cases_eq j i) [
    | inl here ↦
        ap (λ m. c ((inode c m).base + k)) here ∙ ap (λ v. c (v + k)) g.base
        ∙ g.tail k (omega (arith, le, size-same j p.live.number, ap (λ m. (inode b m).size) here)) (omega (arith, lt, ap (λ m. 8 ^ (inode c m).level) here, ap (λ l. 8 ^ l) g.level))
    | inr there ↦
        let number = p.live.number in
        let q = owns_back j there p in
        let width = ap (λ l. 8 ^ l) (level-same j number there) in
        ap (λ v. c (v + k)) (base-same j number there) ∙ other_part j k q there (omega (arith, lt, width)) ∙ g.space.tails j q k (omega (arith, le, size-same j number)) (omega (arith, lt, width))
  ]

  has_part-same : (j : ℕ) → IsNumber count j → j ≢ i → has_part (inode c j) ≡ has_part (inode b j)
  has_part-same j number other = ap (λ k. not (k == 0) && nat_le (inode c j).level 9) (kind-same j number) ∙ ap (λ l. not ((inode b j).kind == 0) && nat_le l 9) (level-same j number other)

  has_part-new : has_part (inode c i) ≡ true
  has_part-new =
      and_from _ _ (ap not (ne_eqb (inode c i).kind 0 (λ z. g.live.used (sym (kind-same i g.live.number) ∙ z)))) (le-leb (inode c i).level 9 (omega (arith, g.level, g.is_part.level)))

  list_same : (n j : ℕ) → is_one (live_parts c count) n j ≡ is_one qs n j
  list_same n j = elim (cases_Bool (is_one (live_parts c count) n j)) [
    | inl t ↦ t ∙ sym (on (owner_of c count n j t))
    | inr f ↦ elim (cases_Bool (is_one qs n j)) [
      | inl t ↦ absurd (false≢true (sym f ∙ owner_one c count n j (off t)))
      | inr f' ↦ f ∙ sym f'
    ]
  ]
    where
      on : Owner c count n j → is_one qs n j ≡ true
      on o = elim (cases_eq o.inode_number i) [
        | inl here ↦
            g.listed n j (sym (sym g.level ∙ ap (λ m. (inode c m).level) (sym here) ∙ o.level)) (sym g.base ∙ ap (λ m. (inode c m).base) (sym here) ∙ o.base)
        | inr there ↦
            let number : IsNumber count o.inode_number = record { from = o.from; to = o.to } in
            g.kept n j (record {
              inode_number = o.inode_number;
              from = o.from;
              to = o.to;
              has = sym (has_part-same o.inode_number number there) ∙ o.has;
              level = sym (level-same o.inode_number number there) ∙ o.level;
              base = sym (base-same o.inode_number number there) ∙ o.base;
            }) there
      ]

      off : is_one qs n j ≡ true → Owner c count n j
      off t = elim (g.back n j t) [
        | inl new_one ↦ record {
          inode_number = i;
          from = g.live.number.from;
          to = g.live.number.to;
          has = has_part-new;
          level = g.level ∙ sym new_one.0;
          base = g.base ∙ new_one.1;
        }
        | inr old ↦
            let o = old.0 in
            let number : IsNumber count o.inode_number = record { from = o.from; to = o.to } in
            record {
              inode_number = o.inode_number;
              from = o.from;
              to = o.to;
              has = has_part-same o.inode_number number old.1 ∙ o.has;
              level = level-same o.inode_number number old.1 ∙ o.level;
              base = base-same o.inode_number number old.1 ∙ o.base;
            }
      ]

  rest_stay : IsRestZero c count
  rest_stay v lt out =
      let from = g.live.number.from in
      let to = g.live.number.to in
      g.low v lt (elim out [ inl l ↦ inl (omega (arith, from)) | inr r ↦ inr (omega (arith, to)) ]) ∙ g.space.rest v lt out

  pub space_stays : HasSpace c count
  space_stays = record {
    few = g.space.few;
    inodes = inodes_stay;
    placed = placed_stay;
    apart = apart_stay;
    tails = tails_stay;
    headers = stand-same c qs (live_parts c count) list_same g.headers;
    rest = rest_stay;
  }

  -- each object is as it was
  pub objects_stay : objects c count ≡ objects b count
  objects_stay = objects-same b c count (λ j number. record {
    kind = kind-same j number;
    size = size-same j number;
    bytes = λ k lt. elim (cases_eq j i) [
      | inl here ↦
          ap (λ m. c ((inode c m).base + k)) here ∙ ap (λ v. c (v + k)) g.base ∙ g.moved k (omega (arith, lt, ap (λ m. (inode b m).size) here)) ∙ ap (λ m. b ((inode b m).base + k)) (sym here)
      | inr there ↦ ap (λ v. c (v + k)) (base-same j number there) ∙ elim (cases_eq (inode b j).kind 0) [
        | inl unused ↦ absurd (omega (arith, lt, (g.space.inodes j number).free 1 (omega arith) unused))
        | inr used ↦
            let live : IsLive b count j = record { number = number; used = used } in
            elim (g.space.placed j live).place [
              | inl none ↦ absurd (omega (arith, lt, none.size))
              | inr r ↦ other_part j k (record { live = live; level = r.part.level }) there (omega (arith, lt, r.size))
            ]
      ]
    ];
  })
