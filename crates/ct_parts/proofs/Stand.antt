-- The headers by bytes, and by words.
use Rattle.std.proofs.Common.{◌≡◌, ℕ, zero, suc, ◌+◌, ◌-◌, ◌*◌, ◌/◌, ◌%◌, ◌^◌, ◌<◌, ◌≤◌, Bool, true, List, ◌∷◌, get_or, refl, sym, ap, ◌∙◌, inl, inr, arith}
use Rattle.std.specs.Prelude.{◌==◌, ◌&&◌, nat_lt, if◌then◌else◌}
use Rattle.std.specs.Int.{w64, from_le_bytes, to_le_bytes}
use Rattle.std.proofs.lemmas.Nat.{pow-add, le_bytes_8}
use Rattle.std.proofs.lemmas.List.{get_or_past}
use Rattle.std.proofs.lemmas.Bool.{cases_lt, cases_Bool, both_ways, false_from_ne_true}
use Rattle.ct_base.specs.Inode.{Partition, little}
use Rattle.ct_base.specs.Headers.{is_one, byte_place, ranges, HeadersStand, StandFor}
use Rattle.ct_base.specs.Ranges.{eight, byte, shown, header, header_at, Headers, IsPartition}
use Rattle.ct_parts.proofs.Bytes.{get-eight, byte-live}
use Rattle.ct_parts.proofs.Change.{eight-same}
use Rattle.ct_parts.proofs.Descent.{shown_is, shown-byte}
use Rattle.ct_parts.proofs.Path.{header_at-bounds, header_at_one, header_at_more}
use Rattle.ct_parts.proofs.Local.{byte-same}
use Rattle.ct_parts.proofs.Says.{live_by_byte}
use Rattle.ct_parts.proofs.Lists.{live_set}

-- ---- places

-- the ranges of a level are those of its header words
pub ranges-is : (n : ℕ) → n ≤ 9 → ranges n ≡ 512 * 8 ^ (9 - n)
ranges-is n le =
    let e : 12 - n ≡ 9 - n + 3 = omega arith in
    omega (arith, ap (λ k. 8 ^ k) e ∙ pow-add 8 (9 - n) 3)

-- byte t of a header word
pub place-header : (n j t : ℕ) → byte_place n (8 * j + t) ≡ header_at (n + 1) j + t
place-header zero j t = omega (arith, header_at_one 1 j (omega arith))
place-header (suc n) j t = omega (arith, header_at_more (suc n + 1) j (omega arith))

pub place-word : (n c : ℕ) → byte_place n c ≡ header_at (n + 1) (c / 8) + c % 8
place-word n c = let whole : c ≡ 8 * (c / 8) + c % 8 = omega arith in ap (byte_place n) whole ∙ place-header n (c / 8) (c % 8)

pub in_word : (n c : ℕ) → n ≤ 9 → c < ranges n → c / 8 < 64 * 8 ^ (9 - n)
in_word n c le lt = let r = ranges-is n le in omega arith

pub in_range : (n j t : ℕ) → n ≤ 9 → j < 64 * 8 ^ (9 - n) → t < 8 → 8 * j + t < ranges n
in_range n j t le lt l = let r = ranges-is n le in omega arith

-- the places lie in root slot 1
pub place_bounds : (n c : ℕ) → n ≤ 9 → c < ranges n → (2 ^ 39 ≤ byte_place n c) × (byte_place n c < 2 ^ 40)
place_bounds n c le lt =
    let bounds = header_at-bounds n (c / 8) le (in_word n c le lt) in
    let at = place-word n c in
    (omega (arith, bounds.0, at), omega (arith, bounds.1, bounds.2, at))

-- ---- the number in eight bytes

pub little-eight : (b : ℕ → ℕ) (a : ℕ) → little b a 8 ≡ from_le_bytes w64 (eight (λ t. b (a + t)))
unfolding little
little-eight b a =
    let e0 : b a ≡ b (a + 0) = ap b (omega arith) in
    let e2 : b (a + 1 + 1) ≡ b (a + 2) = ap b (omega arith) in
    let e3 : b (a + 1 + 1 + 1) ≡ b (a + 3) = ap b (omega arith) in
    let e4 : b (a + 1 + 1 + 1 + 1) ≡ b (a + 4) = ap b (omega arith) in
    let e5 : b (a + 1 + 1 + 1 + 1 + 1) ≡ b (a + 5) = ap b (omega arith) in
    let e6 : b (a + 1 + 1 + 1 + 1 + 1 + 1) ≡ b (a + 6) = ap b (omega arith) in
    let e7 : b (a + 1 + 1 + 1 + 1 + 1 + 1 + 1) ≡ b (a + 7) = ap b (omega arith) in
    omega arith

pub little-bytes : (b : ℕ → ℕ) (a : ℕ) → ((v : ℕ) → b v < 256) → to_le_bytes w64 (little b a 8) ≡ eight (λ t. b (a + t))
little-bytes b a small = le_bytes_8 (eight (λ t. b (a + t))) _ refl bound (little-eight b a)
  where
    bound : (i : ℕ) → get_or (eight (λ t. b (a + t))) i 0 < 256
    bound i = elim (cases_lt i 8) [
      | inl lt ↦ omega (arith, get-eight (λ t. b (a + t)) i lt, small (a + i))
      | inr past ↦ omega (arith, get_or_past (eight (λ t. b (a + t))) i 0 past)
    ]

-- ---- bytes and words

-- two addresses at multiples of 8 with bytes at one place are one
same_word : (a h s t : ℕ) → a % 8 ≡ 0 → h % 8 ≡ 0 → s < 8 → t < 8 → a + s ≡ h + t → a ≡ h
same_word a h s t p q ls lt e = omega arith

-- headers that stand by bytes stand by words
pub bytes-words : (b : ℕ → ℕ) (ps : List Partition) → HeadersStand b ps → Headers (is_one ps) (λ a. little b a 8)
unfolding header
bytes-words b ps h =
    record {
      words = λ n j le lt.
          little-eight b (header_at (n + 1) j)
          ∙ ap (from_le_bytes w64) (eight-same (λ t. b (header_at (n + 1) j + t)) (λ t. shown (is_one ps) n (8 * j + t)) (λ t l.
          ap b (sym (place-header n j t)) ∙ h.bytes n (8 * j + t) le (in_range n j t le lt l)));
      rest = λ a slot aligned off.
          little-eight b a
          ∙ ap (from_le_bytes w64) (eight-same (λ t. b (a + t)) (λ t. 0) (λ t l.
          h.rest (a + t) (omega arith) (omega arith) (λ n c le lt is.
          let w = in_word n c le lt in
          off n (c / 8) le w (same_word a (header_at (n + 1) (c / 8)) t (c % 8) aligned (header_at-bounds n (c / 8) le w).2 l (omega arith) (is ∙ place-word n c)))));
    }

-- and the other way
pub words-bytes : (b : ℕ → ℕ) (ps : List Partition) → ((v : ℕ) → b v < 256) → Headers (is_one ps) (λ a. little b a 8) → HeadersStand b ps
words-bytes b ps small h =
    record {
      bytes = λ n c le lt.
          let r = ranges-is n le in
          let a = header_at (n + 1) (c / 8) in
          ap b (place-word n c)
          ∙ sym (get-eight (λ t. b (a + t)) (c % 8) (omega arith))
          ∙ ap (λ bs. get_or bs (c % 8) 0) (sym (little-bytes b a small))
          ∙ shown_is (is_one ps) (λ a. little b a 8) n c h le (omega arith);
      rest = λ v low high off.
          let a = 8 * (v / 8) in
          let t = v % 8 in
          let l : t < 8 = omega arith in
          let whole : v ≡ a + t = omega arith in
          let zero' : little b a 8 ≡ 0 = h.rest a (omega arith) (omega arith) (λ n j le lt is.
          off n (8 * j + t) le (in_range n j t le lt l) (whole ∙ ap (λ k. k + t) is ∙ sym (place-header n j t))) in
          ap b whole ∙ sym (get-eight (λ s. b (a + s)) t l) ∙ ap (λ bs. get_or bs t 0) (sym (little-bytes b a small))
          ∙ ap (λ w. get_or (to_le_bytes w64 w) t 0) zero' ∙ get-eight (λ _. 0) t l;
    }

-- ---- the headers determine the list

plain_byte : (live : ℕ → ℕ → Bool) (n j : ℕ) → IsPartition n j → shown live n j ≡ byte live n j
plain_byte live n j p = shown-byte live n j p.level p.low

pub determined_one : (b : ℕ → ℕ) (ps qs : List Partition) → StandFor b ps → HeadersStand b qs → (n j : ℕ) → is_one ps n j ≡ true → is_one qs n j ≡ true
determined_one b ps qs s q n j is =
    let p = (live_set ps s.apart).partition n j is in
    let r = ranges-is n p.level in
    let high = p.high in
    let lt : j < ranges n = omega arith in
    live_by_byte (is_one qs) n j
    (sym (plain_byte (is_one qs) n j p) ∙ sym (q.bytes n j p.level lt) ∙ s.stand.bytes n j p.level lt ∙ plain_byte (is_one ps) n j p ∙ byte-live (is_one ps) n j is)

pub determined : (b : ℕ → ℕ) (ps qs : List Partition) → StandFor b ps → StandFor b qs → (n j : ℕ) → is_one qs n j ≡ is_one ps n j
determined b ps qs s q n j =
    elim (cases_Bool (is_one ps n j)) [
      | inl is ↦ determined_one b ps qs s q.stand n j is ∙ sym is
      | inr not ↦ false_from_ne_true (is_one qs n j) (λ is. both_ways (is_one ps n j) not (determined_one b qs ps q s.stand n j is)) ∙ sym not
    ]

-- ---- equal sets, and a set with one partition more or less

pub stand-same : (b : ℕ → ℕ) (ps qs : List Partition) → ((n j : ℕ) → is_one qs n j ≡ is_one ps n j) → HeadersStand b ps → HeadersStand b qs
stand-same b ps qs same h =
    record {
      bytes = λ n j le lt. h.bytes n j le lt ∙ sym (ap (λ k. if (n == 9) && nat_lt j 10 then 48 else k) (byte-same (is_one ps) (is_one qs) same n j));
      rest = h.rest;
    }
