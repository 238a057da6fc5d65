-- Any change of the bytes by address: what a call shows of the inodes that it touches, and the rules on space that follow.
use Rattle.std.proofs.Common.{◌≡◌, ◌≢◌, ℕ, zero, suc, ◌+◌, ◌*◌, ◌%◌, ◌^◌, ◌<◌, ◌≤◌, ◌⊎◌, Bool, true, false, List, [], ◌∷◌, refl, sym, ap, ◌∙◌, subst, inl, inr, arith}
use Rattle.std.specs.Prelude.{◌==◌, ◌&&◌, nat_le, not, if◌then◌else◌}
use Rattle.std.proofs.lemmas.Bool.{cases_Bool, cases_eq, cases_lt, and_from, le-leb, eq-eqb, eqb-true, ne_eqb, and_parts, and_left, and_right}
use Rattle.std.proofs.Math.Nat.{one-le-pow}
use Rattle.ct_base.specs.Headers.{HeadersStand, without}
use Rattle.ct_base.specs.declared.inode.Inode.{Inode}
use Rattle.ct_base.specs.Inode.{IsIn, inode, inode_word, IsNumber, IsLive, Partition, part, part_bytes, part_end, IsPart, AreApart, has_part, live_parts}
use Rattle.ct_base.specs.Objects.{Object, object, objects}
use Rattle.ct_base.specs.Rules.{IsInode, AreInodes, HasNone, HasRoom, IsPlaced, ArePlaced, Owns, part_of, ArePartsApart, AreTailsZero, AreHeaders, IsMappedInParts, IsRestZero}
use Rattle.ct_base.specs.Walk.{page_at}
use Rattle.ct_state.proofs.Bytes.{SameObject, object-same, objects-in, objects-cases}
use Rattle.ct_state.proofs.Write.{HasSpace}

-- Off the touched inodes the words of inodes stay, and so do the bytes past their sizes. Each touched inode is lawful, placed,
-- apart from the others and zero past its size. The headers stand for the live partitions, and the rest of slot 0 is zero.
pub record Rebuilt (b c : ℕ → ℕ) (count : ℕ) (touched : ℕ → Bool) : Type 0 where
  pub space : HasSpace b count
  pub words : (i k : ℕ) → IsNumber count i → touched i ≡ false → k < 8 → inode_word c i k ≡ inode_word b i k
  pub past : (i k : ℕ) → touched i ≡ false → Owns b count i → (inode b i).size ≤ k → k < part_bytes (inode b i).level → c ((inode b i).base + k) ≡ b ((inode b i).base + k)
  pub lawful : (i : ℕ) → IsNumber count i → touched i ≡ true → IsInode c i
  pub placed : (i : ℕ) → IsLive c count i → touched i ≡ true → IsPlaced (inode c i)
  pub apart : (i j : ℕ) → touched i ≡ true → Owns c count i → Owns c count j → i ≢ j → AreApart (part_of c i) (part_of c j)
  pub tails : (i : ℕ) → touched i ≡ true → Owns c count i → (k : ℕ) → (inode c i).size ≤ k → k < part_bytes (inode c i).level → c ((inode c i).base + k) ≡ 0
  pub headers : HeadersStand c (live_parts c count)
  pub rest : IsRestZero c count

other_way : (p q : Partition) → AreApart p q → AreApart q p
other_way p q (inl a) = inr a
other_way p q (inr a) = inl a

module _ {b c : ℕ → ℕ} {count : ℕ} {touched : ℕ → Bool} (r : Rebuilt b c count touched) where
  -- an inode that is not touched
  pub still : (i : ℕ) → IsNumber count i → touched i ≡ false → inode c i ≡ inode b i
  still i number off =
      let w0 = r.words i 0 number off (omega arith) in
      let w1 = r.words i 1 number off (omega arith) in
      let w2 = r.words i 2 number off (omega arith) in
      let w3 = r.words i 3 number off (omega arith) in
      λ t. record { kind = w0 t; size = w1 t; base = w2 t; level = w3 t }

  was_live : (i : ℕ) → touched i ≡ false → IsLive c count i → IsLive b count i
  was_live i off live = record { number = live.number; used = λ z. live.used (ap (λ (f : Inode). f.kind) (still i live.number off) ∙ z) }

  was_owner : (i : ℕ) → touched i ≡ false → Owns c count i → Owns b count i
  was_owner i off owns = record { live = was_live i off owns.live; level = subst (λ (f : Inode). f.level ≤ 9) (still i owns.live.number off) owns.level }

  all_inodes : AreInodes c count
  all_inodes i number = elim (cases_Bool (touched i)) [
    | inl on ↦ r.lawful i number on
    | inr off ↦
        let was = r.space.inodes i number in
        let same = still i number off in
        record {
          kind = subst (λ (f : Inode). f.kind ≤ 2) (sym same) was.kind;
          free = λ k lt z. r.words i k number off lt ∙ was.free k lt (sym (ap (λ (f : Inode). f.kind) same) ∙ z);
          spare = λ k le lt. r.words i k number off lt ∙ was.spare k le lt;
          root = λ is. ap (λ (f : Inode). f.kind) same ∙ was.root is;
        }
  ]

  all_placed : ArePlaced c count
  all_placed i live = elim (cases_Bool (touched i)) [
    | inl on ↦ r.placed i live on
    | inr off ↦ subst IsPlaced (sym (still i live.number off)) (r.space.placed i (was_live i off live))
  ]

  all_apart : ArePartsApart c count
  all_apart i j oi oj other = elim (cases_Bool (touched i)) [
    | inl on ↦ r.apart i j on oi oj other
    | inr off ↦ elim (cases_Bool (touched j)) [
      | inl on ↦ other_way (part_of c j) (part_of c i) (r.apart j i on oj oi (λ is. other (sym is)))
      | inr off' ↦
          let was = r.space.apart i j (was_owner i off oi) (was_owner j off' oj) other in
          subst (λ (f : Inode). AreApart (part f) (part_of c j)) (sym (still i oi.live.number off)) (subst (λ (f : Inode). AreApart (part_of b i) (part f)) (sym (still j oj.live.number off')) was)
    ]
  ]

  all_tails : AreTailsZero c count
  all_tails i owns k past inside = elim (cases_Bool (touched i)) [
    | inl on ↦ r.tails i on owns k past inside
    | inr off ↦
        let same = still i owns.live.number off in
        let was = was_owner i off owns in
        let in_b : k < part_bytes (inode b i).level = subst (λ (f : Inode). k < part_bytes f.level) same inside in
        let past_b : (inode b i).size ≤ k = subst (λ (f : Inode). f.size ≤ k) same past in
        ap (λ (f : Inode). c (f.base + k)) same ∙ r.past i k off was past_b in_b ∙ r.space.tails i was k past_b in_b
  ]

  pub rebuilt_space : HasSpace c count
  rebuilt_space = record { few = r.space.few; inodes = all_inodes; placed = all_placed; apart = all_apart; tails = all_tails; headers = r.headers; rest = r.rest }

  -- an object that is not touched, and whose bytes stay, is the same
  pub rebuilt_object : (i : ℕ) → IsNumber count i → touched i ≡ false → ((k : ℕ) → k < (inode b i).size → c ((inode b i).base + k) ≡ b ((inode b i).base + k)) → object c i ≡ object b i
  rebuilt_object i number off bytes =
      let same = still i number off in
      object-same (record { kind = ap (λ (f : Inode). f.kind) same; size = ap (λ (f : Inode). f.size) same; bytes = λ k lt. ap (λ (f : Inode). c (f.base + k)) same ∙ bytes k lt })

  pub rebuilt_objects : (i : ℕ) → touched i ≡ false → ((k : ℕ) → k < (inode b i).size → c ((inode b i).base + k) ≡ b ((inode b i).base + k)) → objects c count i ≡ objects b count i
  rebuilt_objects i off bytes = elim (objects-cases b count i) [
    | inl k ↦ objects-in c count i k.0 ∙ rebuilt_object i k.0 off bytes ∙ sym k.1
    | inr k ↦ elim (objects-cases c count i) [ inl l ↦ absurd (k.0 l.0) | inr l ↦ l.1 ∙ sym k.1 ]
  ]

-- ---- an owner that is gone, or emptied

-- of the inodes up to n all but i have the partitions that they had, and i has none
module _ (b c : ℕ → ℕ) (count i : ℕ) (apart : ArePartsApart b count) (gone : has_part (inode c i) ≡ false) (others : (j : ℕ) → IsNumber count j → j ≢ i → inode c j ≡ inode b j) where
  has_is : (j : ℕ) → has_part (inode b j) ≡ true → ((inode b j).kind ≢ 0) × ((inode b j).level ≤ 9)
  has_is j h = (λ z. (let no = and_parts (not ((inode b j).kind == 0)) (nat_le (inode b j).level 9) h in not_zero (inode b j).kind z no.0), at_most (inode b j).level (and_parts (not ((inode b j).kind == 0)) (nat_le (inode b j).level 9) h).1)
    where
      use_true : true ≡ false → ⊥
      use_true e = (cc)

      not_zero : (k : ℕ) → k ≡ 0 → not (k == 0) ≡ true → ⊥
      not_zero k z t = use_true (sym t ∙ ap not (eq-eqb k 0 z))

      at_most : (l : ℕ) → nat_le l 9 ≡ true → l ≤ 9
      at_most l h = Rattle.std.proofs.lemmas.Bool.leb-true l 9 h

  owner_is : (j : ℕ) → IsNumber count j → has_part (inode b j) ≡ true → Owns b count j
  owner_is j number h = let s = has_is j h in record { live = record { number = number; used = s.0 }; level = s.1 }

  -- two owners' partitions differ
  differ : (j : ℕ) → Owns b count i → Owns b count j → j ≢ i → (((inode b j).level == (inode b i).level) && ((inode b j).base == (inode b i).base)) ≡ false
  differ j oi oj other = elim (cases_eq (inode b j).level (inode b i).level) [
    | inr ne ↦ and_left _ _ (ne_eqb (inode b j).level (inode b i).level ne)
    | inl level ↦ elim (cases_eq (inode b j).base (inode b i).base) [
      | inr ne ↦ and_right _ _ (ne_eqb (inode b j).base (inode b i).base ne)
      | inl base ↦
          let wide : 1 ≤ 8 ^ (inode b j).level = one-le-pow (inode b j).level 8 (omega arith) in
          let same : 8 ^ (inode b j).level ≡ 8 ^ (inode b i).level = ap (λ l. 8 ^ l) level in
          absurd (elim (apart j i oj oi other) [ inl p ↦ omega (arith, p, base, wide) | inr p ↦ omega (arith, p, base, wide, same) ])
    ]
  ]

  -- where i had a partition, the list is without it
  pub live_parts-gone : Owns b count i → (n : ℕ) → n ≤ count → live_parts c n ≡ without (part_of b i) (live_parts b n)
  unfolding live_parts without
  live_parts-gone oi zero le = refl
  live_parts-gone oi (suc n) le =
      let rest = live_parts-gone oi n (omega arith) in
      let number : IsNumber count (suc n) = record { from = omega arith; to = le } in
      elim (cases_eq (suc n) i) [
        | inl is ↦
            let none : has_part (inode c (suc n)) ≡ false = ap (λ k. has_part (inode c k)) is ∙ gone in
            elim (cases_Bool (has_part (inode b (suc n)))) [
              | inl had ↦ rw (none, had, eq-eqb (inode b (suc n)).level (inode b i).level (ap (λ k. (inode b k).level) is), eq-eqb (inode b (suc n)).base (inode b i).base (ap (λ k. (inode b k).base) is)) rest
              | inr without_one ↦ rw (none, without_one) rest
            ]
        | inr other ↦
            let same = others (suc n) number other in
            elim (cases_Bool (has_part (inode b (suc n)))) [
              | inl had ↦
                  let now : has_part (inode c (suc n)) ≡ true = ap has_part same ∙ had in
                  rw (now, had, differ (suc n) oi (owner_is (suc n) number had) other) (λ t. part (same t) ∷ rest t)
              | inr without_one ↦ let now : has_part (inode c (suc n)) ≡ false = ap has_part same ∙ without_one in rw (now, without_one) rest
            ]
      ]

  -- where it had none, the list stays
  pub live_parts-none : has_part (inode b i) ≡ false → (n : ℕ) → n ≤ count → live_parts c n ≡ live_parts b n
  unfolding live_parts
  live_parts-none had zero le = refl
  live_parts-none had (suc n) le =
      let rest = live_parts-none had n (omega arith) in
      let number : IsNumber count (suc n) = record { from = omega arith; to = le } in
      elim (cases_eq (suc n) i) [
        | inl is ↦
            let none : has_part (inode c (suc n)) ≡ false = ap (λ k. has_part (inode c k)) is ∙ gone in
            let before : has_part (inode b (suc n)) ≡ false = ap (λ k. has_part (inode b k)) is ∙ had in
            rw (none, before) rest
        | inr other ↦
            let same = others (suc n) number other in
            elim (cases_Bool (has_part (inode b (suc n)))) [
              | inl some ↦ let now : has_part (inode c (suc n)) ≡ true = ap has_part same ∙ some in rw (now, some) (λ t. part (same t) ∷ rest t)
              | inr without_one ↦ let now : has_part (inode c (suc n)) ≡ false = ap has_part same ∙ without_one in rw (now, without_one) rest
            ]
      ]

-- the partitions but that of inode i
abbrev pub parts_but : (ℕ → ℕ) → ℕ → ℕ → List Partition
parts_but b count i = if has_part (inode b i) then without (part_of b i) (live_parts b count) else live_parts b count

-- Inode i is free, or has no partition and no bytes, and no other inode changes.
pub record Vacates (b c : ℕ → ℕ) (count i : ℕ) : Type 0 where
  pub space : HasSpace b count
  pub number : IsNumber count i
  pub words : (j k : ℕ) → IsNumber count j → j ≢ i → k < 8 → inode_word c j k ≡ inode_word b j k
  pub lawful : IsInode c i
  pub none : (inode c i).kind ≢ 0 → HasNone (inode c i)
  pub past : (j k : ℕ) → j ≢ i → Owns b count j → (inode b j).size ≤ k → k < part_bytes (inode b j).level → c ((inode b j).base + k) ≡ b ((inode b j).base + k)
  pub headers : HeadersStand c (parts_but b count i)
  pub rest : IsRestZero c count

inode_by : (b c : ℕ → ℕ) (j : ℕ) → ((k : ℕ) → k < 8 → inode_word c j k ≡ inode_word b j k) → inode c j ≡ inode b j
inode_by b c j words =
    let w0 = words 0 (omega arith) in
    let w1 = words 1 (omega arith) in
    let w2 = words 2 (omega arith) in
    let w3 = words 3 (omega arith) in
    λ t. record { kind = w0 t; size = w1 t; base = w2 t; level = w3 t }

module _ {b c : ℕ → ℕ} {count i : ℕ} (v : Vacates b c count i) where
  no_owner : Owns c count i → ⊥
  no_owner owns = omega (arith, owns.level, (v.none owns.live.used).level)

  no_part : has_part (inode c i) ≡ false
  no_part = elim (cases_eq (inode c i).kind 0) [
    | inl free ↦ and_left (not ((inode c i).kind == 0)) (nat_le (inode c i).level 9) (ap not (eq-eqb (inode c i).kind 0 free))
    | inr used ↦ and_right (not ((inode c i).kind == 0)) (nat_le (inode c i).level 9) (ap (λ l. nat_le l 9) (v.none used).level)
  ]

  others_stay : (j : ℕ) → IsNumber count j → j ≢ i → inode c j ≡ inode b j
  others_stay j number other = inode_by b c j (λ k lt. v.words j k number other lt)

  parts_are : live_parts c count ≡ parts_but b count i
  parts_are = elim (cases_Bool (has_part (inode b i))) [
    | inl had ↦
        rw had (live_parts-gone b c count i v.space.apart no_part others_stay (owner_is b c count i v.space.apart no_part others_stay i v.number had) count (omega arith))
    | inr had_none ↦ rw had_none (live_parts-none b c count i v.space.apart no_part others_stay had_none count (omega arith))
  ]

  is_one : (j : ℕ) → (j == i) ≡ true → j ≡ i
  is_one j h = eqb-true j i h

  other_one : (j : ℕ) → (j == i) ≡ false → j ≢ i
  other_one j h = λ is. (let yes : true ≡ false = sym (eq-eqb j i is) ∙ h in cc)

  pub vacates_rebuilt : Rebuilt b c count (λ j. j == i)
  vacates_rebuilt = record {
    space = v.space;
    words = λ j k number off lt. v.words j k number (other_one j off) lt;
    past = λ j k off owns from to. v.past j k (other_one j off) owns from to;
    lawful = λ j number on. subst (IsInode c) (sym (is_one j on)) v.lawful;
    placed = λ j live on.
        let here = subst (IsLive c count) (is_one j on) live in
        let none = v.none here.used in
        subst (λ k. IsPlaced (inode c k)) (sym (is_one j on)) (record { place = inl none; slots = λ dir. ap (λ n. n % 256) none.size });
    apart = λ j k on oj ok other. absurd (no_owner (subst (Owns c count) (is_one j on) oj));
    tails = λ j on owns k from to. absurd (no_owner (subst (Owns c count) (is_one j on) owns));
    headers = subst (HeadersStand c) (sym parts_are) v.headers;
    rest = v.rest;
  }

  -- the rules on space hold
  pub vacated_space : HasSpace c count
  vacated_space = rebuilt_space vacates_rebuilt

  owner_stays : (j : ℕ) → j ≢ i → Owns b count j → Owns c count j
  owner_stays j other owns =
      let same = others_stay j owns.live.number other in
      record {
        live = record { number = owns.live.number; used = λ z. owns.live.used (sym (ap (λ (f : Inode). f.kind) same) ∙ z) };
        level = subst (λ (f : Inode). f.level ≤ 9) (sym same) owns.level;
      }

  -- and pages are mapped in partitions alone, where those of the inode's old partition are gone
  pub vacated_mapped : (old new : List ℕ) → IsMappedInParts old b count → ((p : ℕ) → 10 * 2 ^ 27 ≤ p → (page_at new 4 p ≡ page_at old 4 p) ⊎ (page_at new 4 p ≡ 0))
      → ((p : ℕ) → Owns b count i → IsIn (part_of b i) (p * 4096) → page_at new 4 p ≡ 0) → IsMappedInParts new c count
  vacated_mapped old new mapped pages gone p from none = elim (pages p from) [
    | inr absent ↦ absent
    | inl same ↦ elim (cases_Bool (has_part (inode b i))) [
      | inr had_none ↦ same ∙ mapped p from (λ j owns inside. off j owns inside (λ is. never (sym (owns_part (subst (Owns b count) is owns)) ∙ had_none)))
      | inl had ↦
          let owns_i = owner_is b c count i v.space.apart no_part others_stay i v.number had in
          elim (cases_lt (p * 4096) (part_of b i).base) [
            | inl before ↦ same ∙ mapped p from (λ j owns inside. off j owns inside (λ is. absurd (let here = subst (λ k. IsIn (part_of b k) (p * 4096)) is inside in omega (arith, here.from, before))))
            | inr past ↦ elim (cases_lt (p * 4096) (part_end (part_of b i))) [
              | inl inside ↦ gone p owns_i (record { from = past; to = inside })
              | inr end ↦ same ∙ mapped p from (λ j owns inside. off j owns inside (λ is. absurd (let here = subst (λ k. IsIn (part_of b k) (p * 4096)) is inside in omega (arith, here.to, end))))
            ]
          ]
    ]
  ]
    where
      never : true ≡ false → ⊥
      never e = (cc)

      owns_part : Owns b count i → has_part (inode b i) ≡ true
      owns_part owns = and_from (not ((inode b i).kind == 0)) (nat_le (inode b i).level 9) (ap not (ne_eqb (inode b i).kind 0 owns.live.used)) (le-leb (inode b i).level 9 owns.level)

      off : (j : ℕ) → Owns b count j → IsIn (part_of b j) (p * 4096) → (j ≡ i → ⊥) → ⊥
      off j owns inside other = none j (owner_stays j other owns) (subst (λ (f : Inode). IsIn (part f) (p * 4096)) (sym (others_stay j owns.live.number other)) inside)
