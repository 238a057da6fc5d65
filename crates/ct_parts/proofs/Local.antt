-- Headers that are right in each place stand for a list; the headers of an image with no partition.
use Rattle.std.proofs.Common.{◌≡◌, ◌≢◌, ℕ, zero, suc, ◌+◌, ◌-◌, ◌*◌, ◌/◌, ◌%◌, ◌^◌, ◌<◌, ◌≤◌, Bool, true, false, [], cond, refl, sym, ap, ◌∙◌, subst, inl, inr, arith}
use Rattle.std.specs.Prelude.{◌==◌, nat_lt, nat_le, ◌&&◌, slice_index}
use Rattle.std.specs.Int.{w64, from_le_bytes, to_le_bytes}
use Rattle.std.proofs.lemmas.Nat.{from_le_bytes-to_le_bytes_8}
use Rattle.std.proofs.lemmas.List.{ext_get_or}
use Rattle.std.proofs.lemmas.Bool.{cases_eq, cases_lt, cases_Bool, eqb-true, eq-eqb, ne_eqb, and_from, and_left, and_right, lt-ltb, le-leb, leb-true, ltb-true, both_ways, false_from_ne_true, and_parts}
use Rattle.std.proofs.Math.Nat.{pow-suc}
use Rattle.ct_base.specs.Ranges.{eight, summary, byte, shown, header, header_at, byte_shown, Headers}
use Rattle.ct_base.specs.Headers.{is_one}
use Rattle.ct_base.specs.Published.{IsLocal, shows_live, IsRightWord}
use Rattle.ct_parts.proofs.Bytes.{get-eight, byte-live, byte-start, byte-next, up-up, summary-zero}
use Rattle.std.proofs.Common.{lit<, le-ltb}
use Rattle.ct_base.specs.Ranges.{IsLiveSet}
use Rattle.ct_parts.proofs.Change.{div8, bytes-back}
use Rattle.ct_parts.proofs.Descent.{shown_is, up_partition}
use Rattle.ct_parts.proofs.Says.{live_by_byte}
use Rattle.ct_parts.proofs.Bytes.{zero_from}
use Rattle.ct_parts.proofs.Path.{header_at-bounds, header_at-apart}
use Rattle.ct_parts.proofs.Change.{eight-same}

-- the eight bytes of a word
pub bytes-eight : (word_at : ℕ → ℕ) (n j : ℕ) → to_le_bytes w64 (word_at (header_at (n + 1) j)) ≡ eight (λ t. byte_shown word_at n (8 * j + t))
bytes-eight word_at n j =
    let f = λ (t : ℕ). byte_shown word_at n (8 * j + t) in
    ext_get_or 0 (to_le_bytes w64 (word_at (header_at (n + 1) j))) (eight f) refl (λ i lt.
    let q : j ≡ (8 * j + i) / 8 = let l = lt in omega arith in
    let r : i ≡ (8 * j + i) % 8 = let l = lt in omega arith in
    ap (λ k. slice_index (to_le_bytes w64 (word_at (header_at (n + 1) k))) i) q
    ∙ ap (λ k. slice_index (to_le_bytes w64 (word_at (header_at (n + 1) ((8 * j + i) / 8)))) k) r
    ∙ sym (get-eight f i lt))

-- equal tests have equal bytes and equal headers
pub byte-same : (old new : ℕ → ℕ → Bool) → ((n j : ℕ) → new n j ≡ old n j) → (n j : ℕ) → byte new n j ≡ byte old n j
byte-same old new same zero j =
    elim (cases_Bool (old 0 j)) [
      | inl is ↦ byte-live new 0 j (same 0 j ∙ is) ∙ sym (byte-live old 0 j is)
      | inr not ↦ byte-start new j (same 0 j ∙ not) ∙ sym (byte-start old j not)
    ]
byte-same old new same (suc n) j =
    let below = eight-same (λ t. byte new n (8 * j + t)) (λ t. byte old n (8 * j + t)) (λ t lt. byte-same old new same n (8 * j + t)) in
    elim (cases_Bool (old (suc n) j)) [
      | inl is ↦ byte-live new (suc n) j (same (suc n) j ∙ is) ∙ sym (byte-live old (suc n) j is)
      | inr not ↦ byte-next new n j (same (suc n) j ∙ not) ∙ ap (summary n) below ∙ sym (byte-next old n j not)
    ]

pub headers_same : (old new : ℕ → ℕ → Bool) (word_at : ℕ → ℕ) → ((n j : ℕ) → new n j ≡ old n j) → Headers old word_at → Headers new word_at
unfolding header
headers_same old new word_at same h =
    record {
      words = λ n j le lt. h.words n j le lt ∙ sym (ap (from_le_bytes w64) (eight-same (λ t. shown new n (8 * j + t)) (λ t. shown old n (8 * j + t)) (λ t l.
          ap (λ b. if_slot n (8 * j + t) b) (byte-same old new same n (8 * j + t)))));
      rest = h.rest;
    }
  where
    if_slot : ℕ → ℕ → ℕ → ℕ
    if_slot n c b = cond ((n == 9) && nat_lt c 10) 48 b

down-level : (n j t : ℕ) → n ≤ 8 → j < 512 * 8 ^ (8 - n) → t < 8 → 8 * j + t < 512 * 8 ^ (9 - n)
down-level n j t le lt l =
    let e : 9 - n ≡ suc (8 - n) = omega arith in
    omega (arith, ap (λ k. 8 ^ k) e ∙ pow-suc 8 (8 - n))

pub shows-is : (word_at : ℕ → ℕ) (n j : ℕ) → n ≤ 9 → j < 512 * 8 ^ (9 - n) → byte_shown word_at n j ≡ 16 → shows_live word_at n j ≡ true
shows-is word_at n j le lt is = and_from _ _ (and_from _ _ (le-leb n 9 le) (lt-ltb j (512 * 8 ^ (9 - n)) lt)) (eq-eqb _ 16 is)

pub shows-not : (word_at : ℕ → ℕ) (n j : ℕ) → byte_shown word_at n j ≢ 16 → shows_live word_at n j ≡ false
shows-not word_at n j ne = and_right _ _ (ne_eqb _ 16 ne)

-- what a live range of the set says
pub shows-parts : (word_at : ℕ → ℕ) (n j : ℕ) → shows_live word_at n j ≡ true → (n ≤ 9) × (j < 512 * 8 ^ (9 - n)) × (byte_shown word_at n j ≡ 16)
shows-parts word_at n j is =
    let both = and_parts (nat_le n 9 && nat_lt j (512 * 8 ^ (9 - n))) (byte_shown word_at n j == 16) is in
    let range = and_parts (nat_le n 9) (nat_lt j (512 * 8 ^ (9 - n))) both.0 in
    (leb-true _ _ range.0, ltb-true _ _ range.1, eqb-true _ _ both.1)

module _ {word_at : ℕ → ℕ} (l : IsLocal word_at) where
  -- each byte is the one that the set of the bytes 16 gives
  pub local-byte : (n j : ℕ) → n ≤ 9 → j < 512 * 8 ^ (9 - n) → (n ≡ 9 → 10 ≤ j) → byte_shown word_at n j ≡ byte (shows_live word_at) n j
  local-byte zero j le lt slot =
      elim (cases_eq (byte_shown word_at 0 j) 16) [
        | inl is ↦ is ∙ sym (byte-live (shows_live word_at) 0 j (shows-is word_at 0 j le lt is))
        | inr ne ↦ l.lowest j lt ne ∙ sym (byte-start (shows_live word_at) j (shows-not word_at 0 j ne))
      ]
  local-byte (suc n) j le lt slot =
      let e : 9 - suc n ≡ 8 - n = omega arith in
      let small : j < 512 * 8 ^ (8 - n) = subst (λ (k : ℕ). j < 512 * 8 ^ k) e lt in
      elim (cases_eq (byte_shown word_at (suc n) j) 16) [
        | inl is ↦ is ∙ sym (byte-live (shows_live word_at) (suc n) j (shows-is word_at (suc n) j le lt is))
        | inr ne ↦
            l.others n j (omega arith) small ne (λ e. slot (omega arith))
            ∙ ap (summary n) (bytes-eight word_at n j ∙ eight-same (λ t. byte_shown word_at n (8 * j + t)) (λ t. byte (shows_live word_at) n (8 * j + t)) (λ t lt'.
            local-byte n (8 * j + t) (omega arith) (down-level n j t (omega arith) small lt') (λ e. absurd (omega arith))))
            ∙ sym (byte-next (shows_live word_at) n j (shows-not word_at (suc n) j ne))
      ]

  local-shown : (n j : ℕ) → n ≤ 9 → j < 512 * 8 ^ (9 - n) → byte_shown word_at n j ≡ shown (shows_live word_at) n j
  local-shown n j le lt =
      elim (cases_Bool ((n == 9) && nat_lt j 10)) [
        | inl is ↦
            let both = and_parts (n == 9) (nat_lt j 10) is in
            rw is (ap (λ k. byte_shown word_at k j) (eqb-true n 9 both.0) ∙ l.slots j (ltb-true j 10 both.1))
        | inr not ↦
            rw not (local-byte n j le lt (λ nine. elim (cases_lt j 10) [
              | inl low ↦ absurd (both_ways _ not (and_from (n == 9) (nat_lt j 10) (eq-eqb n 9 nine) (lt-ltb j 10 low)))
              | inr high ↦ high
            ]))
      ]

  -- so the headers are those of that set
  pub local-headers : Headers (shows_live word_at) word_at
  unfolding header
  local-headers =
      record {
        words = λ n j le lt.
            sym (from_le_bytes-to_le_bytes_8 (word_at (header_at (n + 1) j)) (l.small (header_at (n + 1) j)))
            ∙ ap (from_le_bytes w64) (bytes-eight word_at n j ∙ eight-same (λ t. byte_shown word_at n (8 * j + t)) (λ t. shown (shows_live word_at) n (8 * j + t)) (λ t lt'.
            local-shown n (8 * j + t) le (omega arith)));
        rest = l.rest;
      }

-- ---- an image with no partition

pub byte-empty : (n j : ℕ) → byte (is_one []) n j ≡ 0
byte-empty n j = zero_from (is_one []) n j (λ d k i at in_. refl)

pub headers_empty : (word_at : ℕ → ℕ) → word_at (header_at 10 0) ≡ 0x3030303030303030 → word_at (header_at 10 1) ≡ 0x3030
    → ((a : ℕ) → a / 549755813888 ≡ 1 → a % 8 ≡ 0 → a ≢ header_at 10 0 → a ≢ header_at 10 1 → word_at a ≡ 0) → Headers (is_one []) word_at
unfolding header
headers_empty word_at first second rest =
    record { words = words; rest = λ a slot eight off. rest a slot eight (off 9 0 (omega arith) (lit< tt)) (off 9 1 (omega arith) (lit< tt)) }
  where
    plain : (n c : ℕ) → ((n == 9) && nat_lt c 10) ≡ false → shown (is_one []) n c ≡ 0
    plain n c not = rw not (byte-empty n c)

    empty : (n j : ℕ) → ((t : ℕ) → t < 8 → ((n == 9) && nat_lt (8 * j + t) 10) ≡ false) → header (is_one []) n j ≡ 0
    empty n j all = ap (from_le_bytes w64) (eight-same (λ t. shown (is_one []) n (8 * j + t)) (λ t. 0) (λ t lt. plain n (8 * j + t) (all t lt)))

    zero_at : (n j : ℕ) → n ≤ 9 → j < 64 * 8 ^ (9 - n) → (n ≡ 9 → j ≢ 0) → (n ≡ 9 → j ≢ 1) → word_at (header_at (n + 1) j) ≡ 0
    zero_at n j le lt a b =
        let bounds = header_at-bounds n j le lt in
        rest (header_at (n + 1) j) (omega (arith, bounds.0, bounds.1)) bounds.2
        (λ is. let s = header_at-apart n j 9 0 lt (lit< tt) is in a s.0 s.1)
        (λ is. let s = header_at-apart n j 9 1 lt (lit< tt) is in b s.0 s.1)

    slots : (t : ℕ) → t < 8 → shown (is_one []) 9 (8 * 0 + t) ≡ 48
    slots t lt = rw (lt-ltb (8 * 0 + t) 10 (omega arith)) refl

    more : (t : ℕ) → t < 8 → shown (is_one []) 9 (8 * 1 + t) ≡ cond (nat_lt t 2) 48 0
    more t lt =
        elim (cases_lt t 2) [
          | inl low ↦ rw (lt-ltb (8 * 1 + t) 10 (omega arith), lt-ltb t 2 low) refl
          | inr high ↦ rw (le-ltb (8 * 1 + t) 10 (omega arith), le-ltb t 2 high) (byte-empty 9 (8 * 1 + t))
        ]

    header-first : header (is_one []) 9 0 ≡ 0x3030303030303030
    header-first = ap (from_le_bytes w64) (eight-same (λ t. shown (is_one []) 9 (8 * 0 + t)) (λ t. 48) slots)

    header-second : header (is_one []) 9 1 ≡ 0x3030
    header-second = ap (from_le_bytes w64) (eight-same (λ t. shown (is_one []) 9 (8 * 1 + t)) (λ t. cond (nat_lt t 2) 48 0) more)

    words : (n j : ℕ) → n ≤ 9 → j < 64 * 8 ^ (9 - n) → word_at (header_at (n + 1) j) ≡ header (is_one []) n j
    words n j le lt =
        elim (cases_eq n 9) [
          | inr off ↦
              zero_at n j le lt (λ e. absurd (off e)) (λ e. absurd (off e)) ∙ sym (empty n j (λ t l. and_left _ _ (ne_eqb n 9 off)))
          | inl nine ↦ elim (cases_eq j 0) [
            | inl z ↦ ap (λ k. word_at (header_at (k + 1) j)) nine ∙ ap (λ k. word_at (header_at 10 k)) z ∙ first ∙ sym (ap (λ k. header (is_one []) k j) nine ∙ ap (header (is_one []) 9) z ∙ header-first)
            | inr nz ↦ elim (cases_eq j 1) [
              | inl o ↦ ap (λ k. word_at (header_at (k + 1) j)) nine ∙ ap (λ k. word_at (header_at 10 k)) o ∙ second ∙ sym (ap (λ k. header (is_one []) k j) nine ∙ ap (header (is_one []) 9) o ∙ header-second)
              | inr off2 ↦ zero_at n j le lt (λ _. nz) (λ _. off2) ∙ sym (empty n j (λ t l. and_right _ _ (le-ltb (8 * j + t) 10 (omega arith))))
            ]
          ]
        ]

-- ---- and the other way: headers that stand for a set are right in each place

module _ {live : ℕ → ℕ → Bool} {word_at : ℕ → ℕ} (set : IsLiveSet live) (h : Headers live word_at) (small : (a : ℕ) → word_at a < 2 ^ 64) where
  -- nothing is live below a live range
  under-live : (n c : ℕ) → live (suc n) (c / 8) ≡ true → byte live n c ≡ 0
  under-live n c is =
      zero_from live n c (λ d k i at in_. false_from_ne_true (live k i) (λ inner.
      let level : k + suc d ≡ suc n = omega arith in
      let number : i / 8 ^ suc d ≡ c / 8 = sym (up-up i d) ∙ ap (λ x. x / 8) in_ in
      both_ways (live (suc n) (c / 8)) (subst (λ (x : ℕ). live x (c / 8) ≡ false) level (subst (λ (y : ℕ). live (k + suc d) y ≡ false) number (set.apart k i d inner))) is))

  -- nothing is live in slots 0 to 9
  under-slot : (c : ℕ) → c / 8 < 10 → byte live 8 c ≡ 0
  under-slot c low =
      zero_from live 8 c (λ d k i at in_. false_from_ne_true (live k i) (λ is.
      let p = set.partition k i is in
      let e : k + suc d ≡ 9 = omega arith in
      let up = up_partition k (suc d) i (omega arith) p in
      let nine : 9 - (k + suc d) ≡ 0 = omega arith in
      let ten : 10 * 8 ^ (9 - (k + suc d)) ≡ 10 = ap (λ x. 10 * 8 ^ x) nine in
      let number : i / 8 ^ suc d ≡ c / 8 = sym (up-up i d) ∙ ap (λ x. x / 8) in_ in
      let lo = up.low in
      omega (arith, ten, number, lo)))

  plain : (n c : ℕ) → n ≤ 8 → shown live n c ≡ byte live n c
  plain n c le = rw (and_left (n == 9) (nat_lt c 10) (ne_eqb n 9 (omega arith))) refl

  zero-header : (n j : ℕ) → n ≤ 8 → ((t : ℕ) → t < 8 → byte live n (8 * j + t) ≡ 0) → header live n j ≡ 0
  unfolding header
  zero-header n j le all = ap (from_le_bytes w64) (eight-same (λ t. shown live n (8 * j + t)) (λ t. 0) (λ t lt. plain n (8 * j + t) le ∙ all t lt))

  pub headers-local : IsLocal word_at
  headers-local =
      record {
        lowest = λ j lt ne.
            let is = shown_is live word_at 0 j h (omega arith) lt ∙ plain 0 j (omega arith) in
            elim (cases_Bool (live 0 j)) [
              | inl l ↦ absurd (ne (is ∙ byte-live live 0 j l))
              | inr not ↦ is ∙ byte-start live j not
            ];
        itself = λ n j le lt is.
            let live_is = live-16 n j le lt is in
            h.words n j (omega arith) (range n j le lt) ∙ zero-header n j le (λ t l.
            under-live n (8 * j + t) (subst (λ (y : ℕ). live (suc n) y ≡ true) (sym (div8 j t l)) live_is));
        others = λ n j le lt ne slot.
            let not : live (suc n) j ≡ false = false_from_ne_true (live (suc n) j) (λ is. ne (shows n j le lt slot ∙ byte-live live (suc n) j is)) in
            shows n j le lt slot ∙ byte-next live n j not
            ∙ ap (summary n) (sym (eight-same (λ t. shown live n (8 * j + t)) (λ t. byte live n (8 * j + t)) (λ t l. plain n (8 * j + t) le)))
            ∙ ap (summary n) (sym (ap (to_le_bytes w64) (h.words n j (omega arith) (range n j le lt)) ∙ bytes-back live n j (omega arith)));
        slots = λ j lt. shown_is live word_at 9 j h (omega arith) (omega arith) ∙ rw (lt-ltb j 10 lt) refl;
        below = λ j lt. h.words 8 j (omega arith) (omega arith) ∙ zero-header 8 j (omega arith) (λ t l. under-slot (8 * j + t) (omega arith));
        small = small;
        rest = h.rest;
      }
    where
      range : (n j : ℕ) → n ≤ 8 → j < 512 * 8 ^ (8 - n) → j < 64 * 8 ^ (9 - n)
      range n j le lt = let e : 9 - n ≡ suc (8 - n) = omega arith in omega (arith, ap (λ k. 8 ^ k) e ∙ pow-suc 8 (8 - n))

      at : (n j : ℕ) → n ≤ 8 → j < 512 * 8 ^ (8 - n) → byte_shown word_at (suc n) j ≡ shown live (suc n) j
      at n j le lt = let e : 8 - n ≡ 9 - suc n = omega arith in shown_is live word_at (suc n) j h (omega arith) (subst (λ (k : ℕ). j < 512 * 8 ^ k) e lt)

      shows : (n j : ℕ) → n ≤ 8 → j < 512 * 8 ^ (8 - n) → (n ≡ 8 → 10 ≤ j) → byte_shown word_at (suc n) j ≡ byte live (suc n) j
      shows n j le lt slot =
          at n j le lt ∙ elim (cases_eq (suc n) 9) [
            | inl nine ↦ rw (and_right (suc n == 9) (nat_lt j 10) (le-ltb j 10 (slot (omega arith)))) refl
            | inr off ↦ rw (and_left (suc n == 9) (nat_lt j 10) (ne_eqb (suc n) 9 off)) refl
          ]

      live-16 : (n j : ℕ) → n ≤ 8 → j < 512 * 8 ^ (8 - n) → byte_shown word_at (suc n) j ≡ 16 → live (suc n) j ≡ true
      live-16 n j le lt is =
          elim (cases_lt j 10) [
            | inr high ↦ live_by_byte live (suc n) j (sym (shows n j le lt (λ _. high)) ∙ is)
            | inl low ↦ elim (cases_eq n 8) [
              | inl eight' ↦
                  let fake : 48 ≡ 16 = sym (ap (λ k. byte_shown word_at (suc k) j) eight' ∙ shown_is live word_at 9 j h (omega arith) (omega arith) ∙ rw (lt-ltb j 10 low) refl) ∙ is in
                  absurd (omega (arith, fake))
              | inr off ↦ live_by_byte live (suc n) j (sym (shows n j le lt (λ e. absurd (off e))) ∙ is)
            ]
          ]

-- ---- only words that are not 0 need a look

module _ {word_at : ℕ → ℕ} (right : (n j : ℕ) → n ≤ 9 → j < 64 * 8 ^ (9 - n) → word_at (header_at (n + 1) j) ≢ 0 → IsRightWord word_at n j)
    (slots : (j : ℕ) → j < 10 → byte_shown word_at 9 j ≡ 48) (small : (a : ℕ) → word_at a < 2 ^ 64)
    (rest : (a : ℕ) → a / 549755813888 ≡ 1 → a % 8 ≡ 0 → ((n j : ℕ) → n ≤ 9 → j < 64 * 8 ^ (9 - n) → a ≢ header_at (n + 1) j) → word_at a ≡ 0) where
  zero_bytes : (w i : ℕ) → w ≡ 0 → i < 8 → slice_index (to_le_bytes w64 w) i ≡ 0
  zero_bytes w i z lt = ap (λ x. slice_index (to_le_bytes w64 x) i) z ∙ get-eight (λ _. 0) i lt

  -- a byte that is not 0 stands in a word that is not 0
  word-some : (n c : ℕ) → byte_shown word_at n c ≢ 0 → word_at (header_at (n + 1) (c / 8)) ≢ 0
  word-some n c ne z = ne (zero_bytes (word_at (header_at (n + 1) (c / 8))) (c % 8) z (omega arith))

  wide : (n j : ℕ) → n ≤ 8 → j < 512 * 8 ^ (8 - n) → (j / 8 < 64 * 8 ^ (9 - suc n)) × (j < 64 * 8 ^ (9 - n))
  wide n j le lt =
      let e : 9 - n ≡ suc (8 - n) = omega arith in
      let f : 9 - suc n ≡ 8 - n = omega arith in
      (omega (arith, ap (λ k. 64 * 8 ^ k) f), omega (arith, ap (λ k. 8 ^ k) e ∙ pow-suc 8 (8 - n)))

  pub local-from_words : IsLocal word_at
  local-from_words =
      record {
        lowest = λ j lt ne. elim (cases_eq (byte_shown word_at 0 j) 0) [
          | inl z ↦ z
          | inr some ↦ (right 0 (j / 8) (omega arith) (omega arith) (word-some 0 j some)).lowest j refl refl ne
        ];
        itself = λ n j le lt is.
            let some : byte_shown word_at (suc n) j ≢ 0 = λ z. omega (arith, is, z) in
            (right (suc n) (j / 8) (omega arith) (wide n j le lt).0 (word-some (suc n) j some)).itself n j refl refl is;
        others = λ n j le lt ne slot. elim (cases_eq (byte_shown word_at (suc n) j) 0) [
          | inr some ↦ (right (suc n) (j / 8) (omega arith) (wide n j le lt).0 (word-some (suc n) j some)).others n j refl refl ne slot
          | inl z ↦ elim (cases_eq (word_at (header_at (n + 1) j)) 0) [
            | inr full ↦ (right n j (omega arith) (wide n j le lt).1 full).above le
            | inl none ↦ z ∙ sym (ap (λ w. summary n (to_le_bytes w64 w)) none ∙ summary-zero n (to_le_bytes w64 0) refl)
          ]
        ];
        slots = slots;
        below = λ j lt. elim (cases_eq (word_at (header_at 9 j)) 0) [
          | inl z ↦ z
          | inr full ↦ absurd (omega (arith, (right 8 j (omega arith) (omega arith) full).slot refl))
        ];
        small = small;
        rest = rest;
      }
