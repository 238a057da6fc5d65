-- Headers that stand are those whose words are right where they are not 0, and which show the live partitions.
use Rattle.std.proofs.Common.{◌≡◌, ◌≢◌, ℕ, suc, ◌+◌, ◌-◌, ◌*◌, ◌/◌, ◌%◌, ◌^◌, ◌<◌, ◌≤◌, true, List, refl, sym, ap, subst, ◌∙◌, inl, inr, arith}
use Rattle.std.specs.Prelude.{slice_index}
use Rattle.std.specs.Int.{w64, to_le_bytes}
use Rattle.std.proofs.lemmas.Bool.{cases_eq}
use Rattle.ct_base.specs.Headers.{AreDisjoint, is_one}
use Rattle.ct_base.specs.Inode.{Partition, inode, number_of, part, part_bytes}
use Rattle.ct_base.specs.Published.{IsLocal, IsRightWord, shows_live}
use Rattle.ct_base.specs.Ranges.{byte_shown, header_at, summary}
use Rattle.ct_base.specs.Rules.{AreHeaders, ArePartsApart, ArePlaced, Owns}
use Rattle.ct_base.specs.View.{inode_count, view}
use Rattle.ct_parts.proofs.Bytes.{get-eight}
use Rattle.ct_parts.proofs.Lists.{base-is, number-is, part_partition}
use Rattle.ct_parts.proofs.Live.{live_disjoint}
use Rattle.ct_parts.proofs.Local.{shows-is, shows-parts}
use Rattle.ct_parts.proofs.Path.{header_at-apart, header_at-bounds}
use Rattle.ct_state.proofs.Bytes.{little-below}
use Rattle.ct_words.proofs.Shown.{view-small}
use Rattle.ct_placing.specs.Heading.{AreHeaderWords, IsHeader, IsPartShown, IsRangeAt, IsRightByte, IsRightHeader, LooksRight, byte_of, parts_of, word_of}
use Rattle.ct_placing.proofs.Addresses.{range_cases}
use Rattle.ct_placing.proofs.Collecting.{room_of}
use Rattle.ct_placing.proofs.Finding.{one_owned, owned_one}
use Rattle.ct_placing.proofs.Standing.{both_or_none, local_stand, looks_local, right_word, stand_local, stand_shown}

module _ {word_at : ℕ → ℕ} where
  -- the word above eight ranges, in the two forms
  byte_from_word : {n j : ℕ} → IsRightWord word_at n j → (c : ℕ) → c / 8 ≡ j → IsRightByte word_at n c
  byte_from_word {n} {j} right c at = record {
    lowest = λ z ne. ap (λ k. byte_shown word_at k c) z ∙ right.lowest c z at (subst (λ (k : ℕ). byte_shown word_at k c ≢ 16) z ne);
    itself = λ one is.
        let e : n ≡ suc (n - 1) = omega arith in
        let f : n ≡ n - 1 + 1 = omega arith in
        ap (λ k. word_at (header_at k c)) f ∙ right.itself (n - 1) c e at (ap (λ k. byte_shown word_at k c) (sym e) ∙ is);
    others = λ one ne slot.
        let e : n ≡ suc (n - 1) = omega arith in
        let f : n ≡ n - 1 + 1 = omega arith in
        ap (λ k. byte_shown word_at k c) e ∙ right.others (n - 1) c e at (subst (λ (k : ℕ). byte_shown word_at k c ≢ 16) e ne) (λ eight. slot (omega (arith, eight)))
        ∙ ap (λ k. summary (n - 1) (to_le_bytes w64 (word_at (header_at k c)))) (sym f);
  }

  word_from_header : {ps : List Partition} {n j : ℕ} → IsRightHeader word_at ps n j → IsRightWord word_at n j
  word_from_header {ps} {n} {j} h = record {
    slot = h.below.slot;
    above = λ le. let e : suc n ≡ n + 1 = omega arith in ap (λ k. byte_shown word_at k j) e ∙ h.below.above le;
    lowest = λ c z at ne. ap (λ k. byte_shown word_at k c) (sym z) ∙ (h.children c at).byte.lowest z (subst (λ (k : ℕ). byte_shown word_at k c ≢ 16) (sym z) ne);
    itself = λ k c is at live.
        let e : k + 1 ≡ n = omega (arith, is) in
        ap (λ i. word_at (header_at i c)) e ∙ (h.children c at).byte.itself (omega (arith, is)) (ap (λ i. byte_shown word_at i c) is ∙ live);
    others = λ k c is at ne slot.
        let e : n ≡ k + 1 = omega (arith, is) in
        let f : n - 1 ≡ k = omega (arith, is) in
        ap (λ i. byte_shown word_at i c) (sym is)
        ∙ (h.children c at).byte.others (omega (arith, is)) (subst (λ (i : ℕ). byte_shown word_at i c ≢ 16) (sym is) ne) (λ nine. slot (omega (arith, is, nine)))
        ∙ ap (λ i. summary i (to_le_bytes w64 (word_at (header_at n c)))) f
        ∙ ap (λ i. summary k (to_le_bytes w64 (word_at (header_at i c)))) e;
  }

  -- one range has its header word at an address
  pub header_of_range : {ps : List Partition} {a n j : ℕ} → IsRangeAt a n j → IsHeader word_at ps a → IsRightHeader word_at ps n j
  header_of_range {ps} {a} {n} {j} r h =
      let same = header_at-apart h.level h.number n j h.place.number r.number (sym h.place.is ∙ r.is) in
      subst (λ (k : ℕ). IsRightHeader word_at ps n k) same.1 (subst (λ (k : ℕ). IsRightHeader word_at ps k h.number) same.0 h.right)

some_word : (word_at : ℕ → ℕ) (n c : ℕ) → byte_shown word_at n c ≡ 16 → word_at (header_at (n + 1) (c / 8)) ≢ 0
some_word word_at n c is z =
    let none : byte_shown word_at n c ≡ 0 = ap (λ x. slice_index (to_le_bytes w64 x) (c % 8)) z ∙ get-eight (λ _. 0) (c % 8) (omega arith) in
    omega (arith, is, none)

module _ (img : List ℕ) (placed : ArePlaced (view img) (inode_count img)) (apart : ArePartsApart (view img) (inode_count img)) where
  disjoint : AreDisjoint (parts_of img)
  disjoint = live_disjoint (view img) (inode_count img) (inode_count img) (omega arith) placed apart

  module _ (stand : AreHeaders (view img) (inode_count img)) where
    local : IsLocal (word_of img)
    local = stand_local (view img) (parts_of img) (view-small img) disjoint stand

    live_shown : (n j : ℕ) → shows_live (word_of img) n j ≡ is_one (parts_of img) n j
    live_shown = stand_shown (view img) (parts_of img) (view-small img) disjoint stand

    pub slots_shown : (j : ℕ) → j < 10 → byte_of img 9 j ≡ 48
    slots_shown = local.slots

    pub parts_shown : (i : ℕ) → 1 ≤ i → i ≤ inode_count img → IsPartShown img i
    parts_shown i from to used level =
        let f = inode (view img) i in
        let own : Owns (view img) (inode_count img) i = record { live = record { number = record { from = from; to = to }; used = used }; level = level } in
        let room = (room_of placed own).part in
        let one = one_owned (view img) (inode_count img) i f.level (number_of (part f)) from to used refl level (base-is (part f) room) in
        (shows-parts (word_of img) f.level (number_of (part f)) (live_shown f.level (number_of (part f)) ∙ one)).2

    pub words_right : AreHeaderWords (word_of img) (parts_of img) 549755813888 1099511627776
    words_right a from to even some = elim (range_cases a even from) [
      | inl r ↦
          let n = r.0 in
          let j = r.1 in
          let place = r.2 in
          let right = right_word local n j place.level place.number (λ none. some (ap (word_of img) place.is ∙ none)) in
          let e : n + 1 ≡ suc n = omega arith in
          record {
            level = n;
            number = j;
            place = place;
            right = record {
              below = record { slot = right.slot; above = λ le. ap (λ k. byte_of img k j) e ∙ right.above le };
              children = λ c at. record {
                byte = byte_from_word right c at;
                live = λ is. sym (live_shown n c) ∙ shows-is (word_of img) n c place.level (omega (arith, at, place.number)) is;
              };
            };
          }
      | inr none ↦ absurd (some (local.rest a (omega arith) even (λ n j le lt is. none n j (record { level = le; number = lt; is = is }))))
    ]

  module _ (slots : (j : ℕ) → j < 10 → byte_of img 9 j ≡ 48) (parts : (i : ℕ) → 1 ≤ i → i ≤ inode_count img → IsPartShown img i)
      (words : AreHeaderWords (word_of img) (parts_of img) 549755813888 1099511627776) where
    header_right : (n j : ℕ) → n ≤ 9 → j < 64 * 8 ^ (9 - n) → word_of img (header_at (n + 1) j) ≢ 0 → IsRightHeader (word_of img) (parts_of img) n j
    header_right n j le lt some =
        let bounds = header_at-bounds n j le lt in
        header_of_range (record { level = le; number = lt; is = refl }) (words (header_at (n + 1) j) bounds.0 bounds.1 bounds.2 some)

    looks : LooksRight (word_of img)
    looks = record {
      right = λ n j le lt some. word_from_header (header_right n j le lt some);
      slots = slots;
      rest = λ a slot even none. elim (cases_eq (word_of img a) 0) [
        | inl z ↦ z
        | inr some ↦ let h = words a (omega (arith, slot)) (omega (arith, slot)) even some in absurd (none h.level h.number h.place.level h.place.number h.place.is)
      ];
    }

    shows : (n j : ℕ) → is_one (parts_of img) n j ≡ true → shows_live (word_of img) n j ≡ true
    shows n j one =
        let o = owned_one (view img) (inode_count img) (inode_count img) n j (omega arith) one in
        let f = inode (view img) o.number in
        let live = o.own.live in
        let room = (room_of placed o.own).part in
        let p = part_partition (part f) room in
        let shown = parts o.number live.number.from live.number.to live.used o.own.level in
        let number : j ≡ number_of (part f) = number-is (part f) j (o.base ∙ ap (λ k. j * part_bytes k) (sym o.level)) o.own.level in
        ap (λ k. shows_live (word_of img) k j) (sym o.level) ∙ ap (λ k. shows_live (word_of img) f.level k) number ∙ shows-is (word_of img) f.level (number_of (part f)) o.own.level p.high shown

    pub headers_stand : AreHeaders (view img) (inode_count img)
    headers_stand = local_stand (view img) (parts_of img) (view-small img) disjoint
        (looks_local (λ a. little-below (view img) a 8 (λ k lt. view-small img (a + k))) looks)
        (λ n j. both_or_none (shows_live (word_of img) n j) (is_one (parts_of img) n j)
        (λ on.
        let p = shows-parts (word_of img) n j on in
        ((header_right n (j / 8) p.0 (omega (arith, p.1)) (some_word (word_of img) n j p.2)).children j refl).live p.2)
        (shows n j))
