-- The object that has moved keeps its bytes, every object stays, and the rules hold.
use Rattle.std.proofs.Common.{◌≡◌, ◌≢◌, ℕ, zero, suc, ◌+◌, ◌-◌, ◌*◌, ◌/◌, ◌%◌, ◌^◌, ◌<◌, ◌≤◌, true, List, ◌∷◌, refl, sym, ap, subst, ◌∙◌, ◌⊎◌, inl, inr, arith}
use Rattle.std.specs.Prelude.{Contains, ◌==◌, not, nat_le}
use Rattle.std.proofs.lemmas.Bool.{cases_Bool, cases_eq, cases_lt, eq-eqb, ne_eqb, le-leb, and_from, and_parts, not-true, not_from_false, false_from_ne_true, both_ways, lt-ltb, or_left}
use Rattle.ct_base.specs.declared.inode.Inode.{Inode}
use Rattle.ct_base.specs.Headers.{StandFor, HeadersStand, is_one, without}
use Rattle.ct_base.specs.Inode.{inode, inode_word, IsIn, Partition, IsPart, AreApart, part, part_bytes, part_end, number_of, has_part, is_free, meets, live_parts}
use Rattle.ct_base.specs.Rules.{Owns, part_of}
use Rattle.ct_base.specs.View.{is_seen, view, inode_count}
use Rattle.ct_base.specs.Walk.{byte, byte_in, page_at}
use Rattle.ct_frames.specs.Free.{FreePages}
use Rattle.ct_header.specs.Drafted.{IsInHeader}
use Rattle.ct_image.proofs.Steps.{walk-cell}
use Rattle.ct_parts.proofs.Lists.{number-is, is_one-first, is_one-cases, is_one-rest, meets-apart, without-gone, without-others, without-in}
use Rattle.ct_parts.proofs.Live.{live_stand}
use Rattle.ct_state.proofs.Bytes.{little-same}
use Rattle.ct_state.proofs.Carry.{view-seen, view-other}
use Rattle.ct_state.proofs.Grow.{Grows}
use Rattle.ct_state.proofs.Neutral.{seen-bounds}
use Rattle.ct_state.proofs.Owners.{Owner, owner_of, owner_one}
use Rattle.ct_words.proofs.Shown.{little-shown}
use Rattle.ct_base.specs.Words.{word_at}
use Rattle.ct_grow.specs.Drafted.{IsWritten, parts_after}
use Rattle.ct_grow.specs.Grown.{IsPlace, MayMove}
use Rattle.ct_grow.proofs.Apart.{old_first, new_first, narrower}
use Rattle.ct_grow.proofs.Heads.{path_bounds}
use Rattle.ct_grow.proofs.Listed.{headers_same}
use Rattle.ct_grow.proofs.Spans.{part_high}
use Rattle.ct_grow.proofs.Moved.{Grew, some_pages, none_pages, space, placed_now, owns, owned, out_low, byte_middle, byte_out, byte_brought, byte_given, absent, unwritten}

-- what is looked at, by bytes
pub view_from : (old new : List ℕ) (v : ℕ) → (is_seen v ≡ true → byte new v ≡ byte old v) → view new v ≡ view old v
view_from old new v same = elim (cases_Bool (is_seen v)) [
  | inl seen ↦ view-seen new v seen ∙ same seen ∙ sym (view-seen old v seen)
  | inr other ↦ view-other new v other ∙ sym (view-other old v other)
]

-- ---- the list of partitions

pub has_of : (b : ℕ → ℕ) (count j : ℕ) → Owns b count j → has_part (inode b j) ≡ true
has_of b count j o = and_from _ _ (ap not (ne_eqb (inode b j).kind 0 o.live.used)) (le-leb (inode b j).level 9 o.level)

-- a free partition is apart from each of the list
pub free_apart : (b : ℕ → ℕ) (m j : ℕ) (p : Partition) → 1 ≤ j → j ≤ m → has_part (inode b j) ≡ true → is_free (live_parts b m) p ≡ true → AreApart p (part (inode b j))
unfolding live_parts
free_apart b zero j p from to has free = absurd (omega arith)
free_apart b (suc m) j p from to has free = elim (cases_Bool (has_part (inode b (suc m)))) [
  | inl t ↦
      let both : (not (meets p (part (inode b (suc m)))) ≡ true) × (is_free (live_parts b m) p ≡ true) = and_parts _ _ (rw t at free) in
      elim (cases_eq j (suc m)) [
        | inl here ↦ subst (λ (k : ℕ). AreApart p (part (inode b k))) (sym here) (meets-apart p (part (inode b (suc m))) (not-true _ both.0))
        | inr other ↦ free_apart b m j p from (omega (arith, other)) has both.1
      ]
  | inr f ↦
      let rest : is_free (live_parts b m) p ≡ true = rw f at free in
      elim (cases_eq j (suc m)) [
        | inl here ↦ absurd (both_ways (has_part (inode b (suc m))) f (ap (λ k. has_part (inode b k)) (sym here) ∙ has))
        | inr other ↦ free_apart b m j p from (omega (arith, other)) has rest
      ]
]

module _ {w0 w1 w2 : List ℕ} {before after : FreePages} {i : ℕ} {p : Partition} (s : Grew w0 w1 w2 before after i p) where
  abbrev f : Inode
  f = inode (view w0) i

  abbrev old : ℕ → ℕ
  old = view w0

  abbrev count : ℕ
  count = inode_count w0

  abbrev ps : List Partition
  ps = live_parts (view w0) (inode_count w0)

  abbrev qs : List Partition
  qs = parts_after (inode (view w0) i) p (live_parts (view w0) (inode_count w0))

  pub new_apart : (j : ℕ) → Owns (view w0) (inode_count w0) j → AreApart p (part_of (view w0) j)
  new_apart j o = free_apart (view w0) (inode_count w0) j p o.live.number.from o.live.number.to (has_of (view w0) (inode_count w0) j o) s.free

  qs_none : f.level ≡ 15 → qs ≡ p ∷ ps
  qs_none is = rw (eq-eqb f.level 15 is) refl

  qs_some : f.level ≢ 15 → qs ≡ without (part f) (p ∷ ps)
  qs_some some = rw (ne_eqb f.level 15 some) refl

  smaller : f.level ≢ 15 → f.level < p.level
  smaller some = elim s.more [ inl is ↦ absurd (some is) | inr lt ↦ lt ]

  pub listed : (n j : ℕ) → n ≡ p.level → p.base ≡ j * part_bytes n → is_one qs n j ≡ true
  listed n j level base =
      let number : j ≡ number_of p = number-is p j (base ∙ ap (λ k. j * part_bytes k) level) s.is_part.level in
      let one : is_one (p ∷ ps) n j ≡ true = ap (λ k. is_one (p ∷ ps) k j) level ∙ ap (is_one (p ∷ ps) p.level) number ∙ is_one-first p ps s.is_part in
      elim (cases_eq f.level 15) [
        | inl is ↦ ap (λ (l : List Partition). is_one l n j) (qs_none is) ∙ one
        | inr some ↦ ap (λ (l : List Partition). is_one l n j) (qs_some some) ∙ without-others (part f) (p ∷ ps) n j (s.old some).own.level (λ here _. omega (arith, here, level, smaller some)) ∙ one
      ]

  -- two owners of one partition are one
  one_owner : (n j : ℕ) → f.level ≢ 15 → (o : Owner (view w0) (inode_count w0) n j) → n ≡ f.level → j ≡ number_of (part f) → o.inode_number ≡ i
  one_owner n j some o level number = elim (cases_eq o.inode_number i) [
    | inl same ↦ same
    | inr other ↦
        let both = and_parts (not ((inode (view w0) o.inode_number).kind == 0)) (nat_le (inode (view w0) o.inode_number).level 9) o.has in
        let mine = owns s some in
        let room = s.old some in
        let base : f.base ≡ j * part_bytes n = Rattle.ct_parts.proofs.Lists.base-is (part f) room.own ∙ ap (λ k. k * part_bytes f.level) (sym number) ∙ ap (λ k. j * part_bytes k) (sym level) in
        let his : Owns (view w0) (inode_count w0) o.inode_number = record {
          live = record { number = record { from = o.from; to = o.to }; used = λ z. both_ways _ (not-true _ both.0) (eq-eqb (inode (view w0) o.inode_number).kind 0 z) };
          level = Rattle.std.proofs.lemmas.Bool.leb-true _ _ both.1;
        } in
        let same_base : (inode (view w0) o.inode_number).base ≡ f.base = o.base ∙ sym base in
        let same_level : (inode (view w0) o.inode_number).level ≡ f.level = o.level ∙ level in
        let wide = ap (λ l. part_bytes l) same_level in
        let some_bytes = (Rattle.ct_parts.proofs.Lengths.pow8_small f.level room.own.level).1 in
        elim ((space s).apart o.inode_number i his mine other) [ inl one ↦ absurd (omega (arith, one, same_base, wide, some_bytes)) | inr two ↦ absurd (omega (arith, two, same_base, some_bytes)) ]
  ]

  pub kept : (n j : ℕ) → (o : Owner (view w0) (inode_count w0) n j) → o.inode_number ≢ i → is_one qs n j ≡ true
  kept n j o other =
      let one : is_one (p ∷ ps) n j ≡ true = is_one-rest p ps n j (owner_one (view w0) (inode_count w0) n j o) in
      elim (cases_eq f.level 15) [
        | inl is ↦ ap (λ (l : List Partition). is_one l n j) (qs_none is) ∙ one
        | inr some ↦
            ap (λ (l : List Partition). is_one l n j) (qs_some some)
            ∙ without-others (part f) (p ∷ ps) n j (s.old some).own.level (λ level number. other (one_owner n j some o level number)) ∙ one
      ]

  pub back : (n j : ℕ) → is_one qs n j ≡ true → ((n ≡ p.level) × (p.base ≡ j * part_bytes n)) ⊎ ((o : Owner (view w0) (inode_count w0) n j) × (o.inode_number ≢ i))
  back n j is = elim (cases_eq f.level 15) [
    | inl none ↦ elim (is_one-cases p ps n j s.is_part.level (sym (ap (λ (l : List Partition). is_one l n j) (qs_none none)) ∙ is)) [
      | inl here ↦ inl (here.0, new_base here.0 here.1)
      | inr rest ↦
          let o = owner_of (view w0) (inode_count w0) n j rest in
          inr (
            o,
            λ mine.
                let both = and_parts (not ((inode (view w0) o.inode_number).kind == 0)) (nat_le (inode (view w0) o.inode_number).level 9) o.has in
                omega (arith, Rattle.std.proofs.lemmas.Bool.leb-true _ _ both.1, ap (λ k. (inode (view w0) k).level) mine, none),
          )
    ]
    | inr some ↦
        let gone : is_one (without (part f) (p ∷ ps)) n j ≡ true = sym (ap (λ (l : List Partition). is_one l n j) (qs_some some)) ∙ is in
        let room = s.old some in
        elim (is_one-cases p ps n j s.is_part.level (without-in (part f) (p ∷ ps) n j room.own gone)) [
          | inl here ↦ inl (here.0, new_base here.0 here.1)
          | inr rest ↦
              let o = owner_of (view w0) (inode_count w0) n j rest in
              inr (
                o,
                λ mine.
                    let level : n ≡ f.level = sym o.level ∙ ap (λ k. (inode (view w0) k).level) mine in
                    let base : f.base ≡ j * part_bytes f.level = sym (ap (λ k. (inode (view w0) k).base) mine) ∙ o.base ∙ ap (λ k. j * part_bytes k) level in
                    let number : j ≡ number_of (part f) = number-is (part f) j base room.own.level in
                    both_ways _ (ap (λ k. is_one (without (part f) (p ∷ ps)) k j) level ∙ ap (is_one (without (part f) (p ∷ ps)) f.level) number ∙ without-gone (part f) (p ∷ ps) room.own) gone,
              )
        ]
  ]
    where
      new_base : n ≡ p.level → j ≡ number_of p → p.base ≡ j * part_bytes n
      new_base level number = Rattle.ct_parts.proofs.Lists.base-is p s.is_part ∙ ap (λ k. k * part_bytes p.level) (sym number) ∙ ap (λ k. j * part_bytes k) (sym level)

  -- ---- bytes

  low_out : (v : ℕ) → v < 10 * 2 ^ 39 → v < 2 ^ 48 → byte w2 v ≡ byte s.moves.middle v
  low_out v low high = byte_out s v high (out_low s (v / 4096) (omega arith))

  -- below the headers nothing is written but the place of the inode
  pub low : (v : ℕ) → v < 2 ^ 39 → (v < 64 * i + 16) ⊎ (64 * i + 32 ≤ v) → view w2 v ≡ view w0 v
  low v lt out = view_from w0 w2 v (λ seen.
      low_out v (omega arith) (omega arith) ∙ byte_middle s v (omega arith) (λ x on is. off x on is))
    where
      off : (x : ℕ) → IsWritten i f p x → v / 8 ≡ x / 8 → ⊥
      off x (inl (inl on)) is = let b = path_bounds p s.is_part x on in omega (arith, b.0)
      off x (inl (inr (some, on))) is = let b = path_bounds (part f) (s.old some).own x on in omega (arith, b.0)
      off x (inr (inl at)) is = elim out [ inl l ↦ omega arith | inr r ↦ omega arith ]
      off x (inr (inr at)) is = elim out [ inl l ↦ omega arith | inr r ↦ omega arith ]

  -- a word of the inode in the middle
  place_word : (k value : ℕ) → k < 8 → word_at s.moves.middle (64 * i + 8 * k) ≡ value → value < 2 ^ 64 → inode_word (view w2) i k ≡ value
  place_word k value lt is fits =
      let few = s.live.number.to in
      let most = s.ready.inodes.1 in
      let at = 64 * i + 8 * k in
      little-same (view s.moves.middle) (view w2) at at 8 (λ m small. view_from s.moves.middle w2 (at + m) (λ seen. low_out (at + m) (omega arith) (omega arith)))
      ∙ little-shown s.moves.middle at (omega arith) (or_left _ _ (lt-ltb at 1099511627776 (omega arith)))
      ∙ omega (arith, is, fits)

  pub base : (inode (view w2) i).base ≡ p.base
  base = let high = s.is_part.high in place_word 2 p.base (omega arith) (ap (word_at s.moves.middle) (omega arith) ∙ s.moves.places.base) (omega arith)

  pub level : (inode (view w2) i).level ≡ p.level
  level = let high = s.is_part.level in place_word 3 p.level (omega arith) (ap (word_at s.moves.middle) (omega arith) ∙ s.moves.places.level) (omega arith)

  -- the size fits the new partition
  pub fits : f.size ≤ part_bytes p.level
  fits = elim (placed_now s) [
    | inl none ↦ omega (arith, none.size)
    | inr room ↦ let some : f.level ≢ 15 = λ is. omega (arith, room.part.level, is) in omega (arith, room.size, narrower (s.old some) s.is_part)
  ]

  part_seen : (v : ℕ) → 10 * 2 ^ 39 ≤ v → v < 2 ^ 48 → is_seen v ≡ true
  part_seen v from to = grind arith

  -- what is brought is looked at on both sides
  pub view_brought : f.level ≢ 15 → (k : ℕ) → k < part_bytes f.level → view w2 (p.base + k) ≡ view w0 (f.base + k)
  view_brought some k lt =
      let o = s.old some in
      let high = part_high p s.is_part in
      let high' = part_high (part f) o.own in
      let wide = narrower o s.is_part in
      view-seen w2 (p.base + k) (part_seen (p.base + k) (omega (arith, s.is_part.low)) (omega (arith, high, wide)))
      ∙ byte_brought s some k lt ∙ sym (view-seen w0 (f.base + k) (part_seen (f.base + k) (omega (arith, o.own.low)) (omega (arith, high'))))

  pub moved : (k : ℕ) → k < f.size → view w2 (p.base + k) ≡ view w0 (f.base + k)
  moved k lt = elim (placed_now s) [
    | inl none ↦ absurd (omega (arith, lt, none.size))
    | inr room ↦ view_brought (λ is. omega (arith, room.part.level, is)) k (omega (arith, lt, room.size))
  ]

  -- an address of the new partition was not mapped
  pub new_absent : (v : ℕ) → IsIn p v → page_at w0 4 (v / 4096) ≡ 0
  new_absent v inside =
      let one = s.is_part.low in
      let whole : p.base % 4096 ≡ 0 = aligned_page in
      absent s (v / 4096) (omega (arith, inside.from, one)) (λ j o at. elim (new_apart j o) [
        | inl first ↦ omega (arith, first, at.from, inside.to, ends)
        | inr last ↦ omega (arith, last, at.to, inside.from, whole)
      ])
    where
      aligned_page : p.base % 4096 ≡ 0
      aligned_page = omega (arith, (Rattle.ct_grow.proofs.Spans.first_page 0 p.base (omega arith) (Rattle.ct_grow.proofs.Spans.aligned_down p.level 0 p.base (subst (λ (k : ℕ). p.base % (4096 * 8 ^ k) ≡ 0) (omega arith) s.is_part.aligned))).start)

      ends : part_end p ≡ p.base + 4096 * 8 ^ p.level
      ends = refl

  new_zero : (v : ℕ) → IsIn p v → v < 2 ^ 48 → byte w0 v ≡ 0
  new_zero v inside high = ap (λ t. byte_in w0 t (v % 4096)) (walk-cell w0 v high ∙ new_absent v inside)

  pub tail : (k : ℕ) → f.size ≤ k → k < part_bytes p.level → view w2 (p.base + k) ≡ 0
  tail k past lt =
      let high = part_high p s.is_part in
      let seen = part_seen (p.base + k) (omega (arith, s.is_part.low)) (omega (arith, high)) in
      let inside : IsIn p (p.base + k) = record { from = omega arith; to = omega arith } in
      elim (cases_eq f.level 15) [
        | inl is ↦
            let none = none_pages f is in
            view-seen w2 (p.base + k) seen
            ∙ byte_out s (p.base + k) (omega (arith, high)) (record { first = λ le. omega (arith, none, le); second = λ le. omega (arith, none, le) })
            ∙ byte_middle s (p.base + k) (omega (arith, high)) (unwritten s (p.base + k) (omega (arith, s.is_part.low))) ∙ new_zero (p.base + k) inside (omega (arith, high))
        | inr some ↦ elim (cases_lt k (part_bytes f.level)) [
          | inl within ↦ view_brought some k within ∙ (space s).tails i (owns s some) k past within
          | inr beyond ↦
              let o = s.old some in
              let two = new_first o s.is_part in
              let n_is = some_pages f some in
              view-seen w2 (p.base + k) seen
              ∙ byte_out s (p.base + k) (omega (arith, high)) (record {
                first = λ le. elim o.apart [
                  | inl first ↦ absurd (omega (arith, first, le, lt, (old_first o s.is_part).start))
                  | inr last ↦ omega (arith, last, n_is, (old_first o s.is_part).start)
                ];
                second = λ le. omega (arith, beyond, n_is, two.start);
              })
              ∙ byte_middle s (p.base + k) (omega (arith, high)) (unwritten s (p.base + k) (omega (arith, s.is_part.low))) ∙ new_zero (p.base + k) inside (omega (arith, high))
        ]
      ]

  -- ---- all other bytes

  in_header : (q : Partition) → IsPart q → (v x : ℕ) → Contains (Rattle.ct_base.specs.Published.header_words q) x → v / 8 ≡ x / 8 → IsInHeader q v
  in_header q part v x on is = let b = path_bounds q part x on in record { address = x; on_path = on; from = omega (arith, is, b.2); to = omega (arith, is, b.2) }

  pub others_all : (v : ℕ) → (MayMove w0 i p v → ⊥) → view w2 v ≡ view w0 v
  others_all v off = view_from w0 w2 v (λ seen.
      let bounds = seen-bounds v seen in
      elim bounds.1 [
        | inl below ↦ low_out v (omega (arith, below)) bounds.0 ∙ byte_middle s v bounds.0 (λ x on is. off (moved_word x on is))
        | inr above ↦ byte_out s v bounds.0 (outside bounds.0 above) ∙ byte_middle s v bounds.0 (unwritten s v (omega (arith, above)))
      ])
    where
      moved_word : (x : ℕ) → IsWritten i f p x → v / 8 ≡ x / 8 → MayMove w0 i p v
      moved_word x (inl (inl on)) is = inr (inl (in_header p s.is_part v x on is))
      moved_word x (inl (inr (some, on))) is = inr (inr (owns s some, inl (in_header (part f) (s.old some).own v x on is)))
      moved_word x (inr (inl at)) is = inl (omega arith, omega arith)
      moved_word x (inr (inr at)) is = inl (omega arith, omega arith)

      outside : v < 2 ^ 48 → 10 * 2 ^ 39 ≤ v → Rattle.ct_base.specs.Exchange.Outside (f.base / 4096) (p.base / 4096) (Rattle.ct_grow.specs.Grown.pages_of f) (v / 4096)
      outside lt above = elim (cases_eq f.level 15) [
        | inl is ↦ let none = none_pages f is in record { first = λ le. omega (arith, none, le); second = λ le. omega (arith, none, le) }
        | inr some ↦
            let o = s.old some in
            let one = old_first o s.is_part in
            let two = new_first o s.is_part in
            let n_is = some_pages f some in
            record {
              first = λ le. elim (cases_lt (v / 4096) (f.base / 4096 + Rattle.ct_grow.specs.Grown.pages_of f)) [
                | inl within ↦ absurd (off (inr (inr (owns s some, inr (inl (record { from = omega (arith, one.start, le); to = omega (arith, one.start, within, n_is) }))))))
                | inr past ↦ past
              ];
              second = λ le. elim (cases_lt (v / 4096) (p.base / 4096 + Rattle.ct_grow.specs.Grown.pages_of f)) [
                | inl within ↦ absurd (off (inr (inr (owns s some, inr (inr (record { from = omega (arith, two.start, le); to = omega (arith, two.start, within, n_is) }))))))
                | inr past ↦ past
              ];
            }
      ]

  pub others : (v : ℕ) → 10 * 2 ^ 39 ≤ v → (IsIn p v → ⊥) → (Owns (view w0) (inode_count w0) i → IsIn (part_of (view w0) i) v → ⊥) → view w2 v ≡ view w0 v
  others v high not_new not_old = others_all v off
    where
      off : MayMove w0 i p v → ⊥
      off (inl place) = let few = s.live.number.to in let most = s.ready.inodes.1 in omega (arith, place.1, high)
      off (inr (inl header)) = omega (arith, (path_bounds p s.is_part header.address header.on_path).1, header.to, high)
      off (inr (inr (o, inl header))) = omega (arith, (path_bounds (part f) (s.old (owned s o)).own header.address header.on_path).1, header.to, high)
      off (inr (inr (o, inr (inl inside)))) = not_old o inside
      off (inr (inr (o, inr (inr inside)))) = not_new (record { from = inside.from; to = omega (arith, inside.to, narrower (s.old (owned s o)) s.is_part) })

  -- the partition that was given up is empty
  pub given : Owns (view w0) (inode_count w0) i → (v : ℕ) → IsIn (part_of (view w0) i) v → view w2 v ≡ 0
  given o v inside =
      let some = owned s o in
      let room = s.old some in
      let k = v - f.base in
      let at : v ≡ f.base + k = omega (arith, inside.from) in
      let lt : k < part_bytes f.level = omega (arith, inside.from, inside.to) in
      let high = part_high (part f) room.own in
      let high' = part_high p s.is_part in
      let wide = narrower room s.is_part in
      let here : IsIn p (p.base + k) = record { from = omega arith; to = omega (arith, lt, wide) } in
      view-seen w2 v (part_seen v (omega (arith, inside.from, room.own.low)) (omega (arith, inside.to, high)))
      ∙ ap (byte w2) at ∙ byte_given s some k lt ∙ new_zero (p.base + k) here (omega (arith, high', lt, wide))

  -- ---- headers

  pub headers_now : HeadersStand (view w2) qs
  headers_now =
      let was : StandFor (view w0) ps = live_stand (view w0) (inode_count w0) (space s).placed (space s).apart (space s).headers in
      let made : StandFor (view w1) ps = Rattle.ct_grow.proofs.Listed.stand_same w0 w1 ps (λ v from to. view_from w0 w1 v (λ seen. s.grown.bytes v (omega arith))) was in
      let mine = λ (some : f.level ≢ 15).
      let o = owns s some in
      let room = (s.old some).own in
      let it : is_one ps f.level (number_of (part f)) ≡ true = owner_one (view w0) (inode_count w0) f.level (number_of (part f)) (record {
        inode_number = i;
        from = o.live.number.from;
        to = o.live.number.to;
        has = has_of (view w0) (inode_count w0) i o;
        level = refl;
        base = Rattle.ct_parts.proofs.Lists.base-is (part f) room;
      }) in it in
      let then : StandFor (view s.moves.middle) qs = s.moves.places.stand ps made s.free mine in
      headers_same (view s.moves.middle) (view w2) qs (λ v from to. view_from s.moves.middle w2 v (λ seen. low_out v (omega arith) (omega arith))) then.stand

  pub grows : Grows (view w0) (view w2) (inode_count w0) i p qs
  grows = record {
    space = space s;
    live = s.live;
    is_part = s.is_part;
    free = new_apart;
    fits = fits;
    base = base;
    level = level;
    low = low;
    moved = moved;
    tail = tail;
    others = others;
    headers = headers_now;
    listed = listed;
    kept = kept;
    back = back;
  }
