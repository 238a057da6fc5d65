-- The way down to the first free partition of a level.
use Rattle.std.proofs.Common.{◌≡◌, ℕ, zero, suc, ◌+◌, ◌-◌, ◌*◌, ◌/◌, ◌%◌, ◌^◌, ◌<◌, ◌≤◌, Bool, true, false, refl, sym, ap, ◌∙◌, subst, inl, inr, arith}
use Rattle.std.specs.Prelude.{◌==◌, nat_lt, slice_index}
use Rattle.std.specs.Int.{w64, to_le_bytes}
use Rattle.std.proofs.lemmas.Nat.{pow-add, le-div, div_below}
use Rattle.std.proofs.lemmas.Bool.{cases_eq, cases_lt, ne_eqb, eqb-true, eqb-false, ltb-true, ltb-false, or_cases, or_parts, le-ltb, and_left, and_right}
use Rattle.std.proofs.Math.Nat.{one-le-pow, pow-suc, mul_assoc}
use Rattle.ct_base.specs.Ranges.{byte, rank, shown, byte_shown, fits, Clear, IsPartition, IsFree, IsLiveSet, Headers, IsFirstFree, Going, IsDown}
use Rattle.ct_parts.proofs.Bytes.{fits-down, fits-here, fits-not_live, clear-fits, up-up, up-down, rank-zero, rank-some, get-eight}
use Rattle.ct_parts.proofs.Change.{bytes-back}
use Rattle.ct_parts.proofs.Free.{free-clear, clear-free}

-- what a byte that fits says
pub fits-rank : (n l b : ℕ) → l ≤ n → fits l b ≡ true → l < rank n b
fits-rank n l b le is =
    elim (cases_eq b 0) [
      | inl z ↦ omega (arith, rank-zero n b z)
      | inr ne ↦ elim (or_cases (b == 0) (nat_lt (32 + l) b) is) [
        | inl z ↦ absurd (ne (eqb-true b 0 z))
        | inr lt ↦ omega (arith, rank-some n b ne, ltb-true _ _ lt)
      ]
    ]

pub rank-fits : (n l b : ℕ) → fits l b ≡ false → l < rank n b → ⊥
rank-fits n l b not lt =
    let both = or_parts (b == 0) (nat_lt (32 + l) b) not in
    omega (arith, rank-some n b (eqb-false b 0 both.0), ltb-false _ _ both.1)

-- the headers show the bytes of their set
pub shown_is : (live : ℕ → ℕ → Bool) (word_at : ℕ → ℕ) (n c : ℕ) → Headers live word_at → n ≤ 9 → c < 512 * 8 ^ (9 - n) → byte_shown word_at n c ≡ shown live n c
shown_is live word_at n c h le lt =
    let small : c / 8 < 64 * 8 ^ (9 - n) = omega arith in
    let whole : 8 * (c / 8) + c % 8 ≡ c = omega arith in
    ap (λ w. slice_index (to_le_bytes w64 w) (c % 8)) (h.words n (c / 8) le small)
    ∙ ap (λ bs. slice_index bs (c % 8)) (bytes-back live n (c / 8) le)
    ∙ get-eight (λ t. shown live n (8 * (c / 8) + t)) (c % 8) (omega arith)
    ∙ ap (shown live n) whole

pub shown-byte : (live : ℕ → ℕ → Bool) (n c : ℕ) → n ≤ 9 → 10 * 8 ^ (9 - n) ≤ c → shown live n c ≡ byte live n c
shown-byte live n c le low =
    elim (cases_eq n 9) [
      | inr ne ↦ rw (and_left (n == 9) (nat_lt c 10) (ne_eqb n 9 ne)) refl
      | inl is ↦
          let ten : 10 * 8 ^ (9 - n) ≡ 10 = ap (λ k. 10 * 8 ^ (9 - k)) is in
          rw (and_right (n == 9) (nat_lt c 10) (le-ltb c 10 (omega (arith, ten)))) refl
    ]

-- a byte in slots 10 to 511
pub byte_is : (live : ℕ → ℕ → Bool) (word_at : ℕ → ℕ) (n c : ℕ) → Headers live word_at → IsPartition n c → byte_shown word_at n c ≡ byte live n c
byte_is live word_at n c h p = shown_is live word_at n c h p.level p.high ∙ shown-byte live n c p.level p.low

-- a partition's slot is one of 10 to 511
pub up_partition : (l d x : ℕ) → l + d ≤ 9 → IsPartition l x → IsPartition (l + d) (x / 8 ^ d)
up_partition l d x le p =
    let w : 8 ^ (9 - l) ≡ 8 ^ (9 - (l + d)) * 8 ^ d = ap (λ k. 8 ^ k) (omega arith) ∙ pow-add 8 (9 - (l + d)) d in
    let pos : 0 < 8 ^ d = one-le-pow d 8 (omega arith) in
    let lo : 10 * 8 ^ (9 - (l + d)) * 8 ^ d ≤ x = omega (arith, p.low, ap (λ k. 10 * k) w ∙ sym (mul_assoc 10 (8 ^ (9 - (l + d))) (8 ^ d))) in
    let hi : x < 512 * 8 ^ (9 - (l + d)) * 8 ^ d = omega (arith, p.high, ap (λ k. 512 * k) w ∙ sym (mul_assoc 512 (8 ^ (9 - (l + d))) (8 ^ d))) in
    record { level = le; low = le-div _ x (8 ^ d) pos lo; high = div_below x (8 ^ d) _ pos hi }

pub down_partition : (n j c : ℕ) → n < 9 → IsPartition (suc n) j → c / 8 ≡ j → IsPartition n c
down_partition n j c lt p up =
    let w : 8 ^ (9 - n) ≡ 8 ^ (9 - suc n) * 8 = ap (λ k. 8 ^ k) (omega arith) ∙ pow-suc 8 (9 - suc n) in
    record { level = omega arith; low = omega (arith, p.low, w); high = omega (arith, p.high, w) }

-- the slot
pub going_start : (live : ℕ → ℕ → Bool) (l e s : ℕ) → l + e ≡ 9 → 10 ≤ s → s < 512 → l < rank 9 (byte live 9 s)
    → ((c : ℕ) → 10 ≤ c → c < s → l < rank 9 (byte live 9 c) → ⊥) → Going live l e s
going_start live l e s nine low high room before =
    record {
      partition = subst (λ (n : ℕ). IsPartition n s) (sym nine) (record { level = omega arith; low = low; high = high });
      room = subst (λ (n : ℕ). l < rank n (byte live n s)) (sym nine) room;
      above = λ d le. absurd (omega arith);
      first = λ x p clear.
          let up = up_partition l e x (omega arith) p in
          let slot = subst (λ (n : ℕ). IsPartition n (x / 8 ^ e)) nine up in
          let shows = clear-fits live e l x (record { down = clear.down; up = λ d le. clear.up d (omega arith) }) in
          elim (cases_lt (x / 8 ^ e) s) [
            | inl lt ↦ absurd (before (x / 8 ^ e) slot.low lt (subst (λ (n : ℕ). l < rank n (byte live n (x / 8 ^ e))) nine shows))
            | inr le ↦ le
          ];
    }

-- where no slot has one, there is none
pub going_none : (live : ℕ → ℕ → Bool) (l x : ℕ) → ((c : ℕ) → 10 ≤ c → c < 512 → l < rank 9 (byte live 9 c) → ⊥) → IsPartition l x → Clear live 9 l x → ⊥
going_none live l x none p clear =
    let e = 9 - l in
    let level = p.level in
    let nine : l + e ≡ 9 = omega arith in
    let slot = subst (λ (n : ℕ). IsPartition n (x / 8 ^ e)) nine (up_partition l e x (omega arith) p) in
    let shows = clear-fits live e l x (record { down = clear.down; up = λ d le. clear.up d (omega arith) }) in
    none (x / 8 ^ e) slot.low slot.high (subst (λ (n : ℕ). l < rank n (byte live n (x / 8 ^ e))) nine shows)

-- the first child with one
pub going_step : (live : ℕ → ℕ → Bool) (l e j c : ℕ) → Going live l (suc e) j → c / 8 ≡ j → l < rank (l + e) (byte live (l + e) c)
    → ((b : ℕ) → 8 * j ≤ b → b < c → l < rank (l + e) (byte live (l + e) b) → ⊥) → Going live l e c
going_step live l e j c g up room before =
    let level : l + suc e ≡ suc (l + e) = omega arith in
    let lt = g.partition.level in
    record {
      partition = down_partition (l + e) j c (omega arith) (subst (λ (n : ℕ). IsPartition n j) level g.partition) up;
      room = room;
      above = λ d le. above d le;
      first = λ x p clear.
          let y = x / 8 ^ e in
          let up' : y / 8 ≡ x / 8 ^ suc e = up-up x e in
          let least : j ≤ y / 8 = omega (arith, g.first x p clear, up') in
          let shows = clear-fits live e l x (record { down = clear.down; up = λ d le. clear.up d (omega arith) }) in
          elim (cases_lt y c) [
            | inl l ↦ absurd (before y (omega (arith, least)) l shows)
            | inr le ↦ le
          ];
    }
  where
    here : live (l + suc e) j ≡ false
    here = fits-not_live live (l + suc e) l j g.room

    above : (d : ℕ) → l + e + suc d ≤ 9 → live (l + e + suc d) (c / 8 ^ suc d) ≡ false
    above zero le =
        let n : l + suc e ≡ l + e + 1 = omega arith in
        let j' : j ≡ c / 8 ^ 1 = sym up in
        subst (λ (x : ℕ). live x (c / 8 ^ 1) ≡ false) n (subst (λ (x : ℕ). live (l + suc e) x ≡ false) j' here)
    above (suc d) le =
        let n : l + suc e + suc d ≡ l + e + suc (suc d) = omega arith in
        let j' : j / 8 ^ suc d ≡ c / 8 ^ suc (suc d) = ap (λ x. x / 8 ^ suc d) (sym up) ∙ up-down c (suc d) in
        subst (λ (x : ℕ). live x (c / 8 ^ suc (suc d)) ≡ false) n (subst (λ (x : ℕ). live (l + suc e + suc d) x ≡ false) j' (g.above d (omega arith)))

-- a child with one is there
pub going_child : (live : ℕ → ℕ → Bool) (l e j : ℕ) → Going live l (suc e) j → (t : ℕ) × (t < 8) × (l < rank (l + e) (byte live (l + e) (8 * j + t)))
going_child live l e j g =
    let level : l + suc e ≡ suc (l + e) = omega arith in
    fits-down live (l + e) l j (omega arith) (subst (λ (n : ℕ). l < rank n (byte live n j)) level g.room)

-- at the level itself it is the first free partition
pub going_end : (live : ℕ → ℕ → Bool) (l j : ℕ) → IsLiveSet live → Going live l 0 j → IsFirstFree live l j
going_end live l j set g =
    let same : l + 0 ≡ l = omega arith in
    let room : l < rank l (byte live l j) = subst (λ (n : ℕ). l < rank n (byte live n j)) same g.room in
    record {
      partition = subst (λ (n : ℕ). IsPartition n j) same g.partition;
      free = clear-free live l j set (record { down = fits-here live l j room; up = up room });
      first = λ x p free. omega (arith, g.first x p (free-clear live l x free));
    }
  where
    up : l < rank l (byte live l j) → (d : ℕ) → l + d ≤ 9 → live (l + d) (j / 8 ^ d) ≡ false
    up room zero le =
        let here = fits-not_live live l l j room in
        let n : l ≡ l + 0 = omega arith in
        let j' : j ≡ j / 8 ^ 0 = omega arith in
        subst (λ (x : ℕ). live x (j / 8 ^ 0) ≡ false) n (subst (λ (x : ℕ). live l x ≡ false) j' here)
    up room (suc d) le =
        let n : l + 0 + suc d ≡ l + suc d = omega arith in
        subst (λ (x : ℕ). live x (j / 8 ^ suc d) ≡ false) n (g.above d (omega arith))

-- ---- the same by the headers alone

pub down_start : (word_at : ℕ → ℕ) (l s : ℕ) → l ≤ 9 → 10 ≤ s → s < 512 → fits l (byte_shown word_at 9 s) ≡ true
    → ((c : ℕ) → 10 ≤ c → c < s → fits l (byte_shown word_at 9 c) ≡ false) → IsDown word_at l 9 s
down_start word_at l s le low high here before live set headers =
    let is = λ (c : ℕ) (lo : 10 ≤ c) (hi : c < 512). byte_is live word_at 9 c headers (record { level = omega arith; low = lo; high = hi }) in
    going_start live l (9 - l) s (omega arith) low high
    (subst (λ (b : ℕ). l < rank 9 b) (is s low high) (fits-rank 9 l _ le here))
    (λ c lo lt room. rank-fits 9 l (byte live 9 c) (subst (λ (b : ℕ). fits l b ≡ false) (is c lo (omega arith)) (before c lo lt)) room)

pub down_none : (live : ℕ → ℕ → Bool) (word_at : ℕ → ℕ) (l x : ℕ) → Headers live word_at → l ≤ 9 → ((c : ℕ) → 10 ≤ c → c < 512 → fits l (byte_shown word_at 9 c) ≡ false)
    → IsPartition l x → IsFree live l x → ⊥
down_none live word_at l x headers le none p free =
    going_none live l x
    (λ c lo hi room. rank-fits 9 l (byte live 9 c)
    (subst (λ (b : ℕ). fits l b ≡ false) (byte_is live word_at 9 c headers (record { level = omega arith; low = lo; high = hi })) (none c lo hi)) room)
    p (free-clear live l x free)

-- from level n + 1 to level n
pub down_step : (word_at : ℕ → ℕ) (l n j c : ℕ) → IsDown word_at l (n + 1) j → l ≤ n → n ≤ 8 → 8 * j ≤ c → c < 8 * j + 8 → fits l (byte_shown word_at n c) ≡ true
    → ((b : ℕ) → 8 * j ≤ b → b < c → fits l (byte_shown word_at n b) ≡ false) → IsDown word_at l n c
down_step word_at l n j c down le high low lt here before live set headers =
    let e = n - l in
    let more : n + 1 - l ≡ suc e = omega arith in
    let at : l + e ≡ n = omega arith in
    let g : Going live l (suc e) j = subst (λ (x : ℕ). Going live l x j) more (down live set headers) in
    let top : IsPartition (suc (l + e)) j = let same : l + suc e ≡ suc (l + e) = omega arith in subst (λ (x : ℕ). IsPartition x j) same g.partition in
    let is = λ (b : ℕ) (lo : 8 * j ≤ b) (hi : b < 8 * j + 8). byte_is live word_at n b headers (subst (λ (x : ℕ). IsPartition x b) at (down_partition (l + e) j b (omega arith) top (omega arith))) in
    let Q : ℕ → ℕ → Type 0 = λ m b. l < rank m (byte live m b) in
    going_step live l e j c g (omega arith)
    (subst (λ (m : ℕ). l < rank m (byte live m c)) (sym at) (subst (λ (b : ℕ). l < rank n b) (is c low lt) (fits-rank n l _ le here)))
    (λ b lo l' room. rank-fits n l (byte live n b) (subst (λ (x : ℕ). fits l x ≡ false) (is b lo (omega arith)) (before b lo l')) (subst (λ (m : ℕ). l < rank m (byte live m b)) at room))

-- some child fits
pub down_some : (live : ℕ → ℕ → Bool) (word_at : ℕ → ℕ) (l n j : ℕ) → IsLiveSet live → Headers live word_at → IsDown word_at l (n + 1) j → l ≤ n → n ≤ 8
    → ((b : ℕ) → 8 * j ≤ b → b < 8 * j + 8 → fits l (byte_shown word_at n b) ≡ false) → ⊥
down_some live word_at l n j set headers down le high none =
    let e = n - l in
    let more : n + 1 - l ≡ suc e = omega arith in
    let at : l + e ≡ n = omega arith in
    let g : Going live l (suc e) j = subst (λ (x : ℕ). Going live l x j) more (down live set headers) in
    let top : IsPartition (suc (l + e)) j = let same : l + suc e ≡ suc (l + e) = omega arith in subst (λ (x : ℕ). IsPartition x j) same g.partition in
    let some = going_child live l e j g in
    let c = 8 * j + some.0 in
    let part = subst (λ (x : ℕ). IsPartition x c) at (down_partition (l + e) j c (omega arith) top (let lt = some.1 in omega arith)) in
    rank-fits n l (byte live n c) (subst (λ (x : ℕ). fits l x ≡ false) (byte_is live word_at n c headers part) (none c (omega arith) (let lt = some.1 in omega arith)))
    (subst (λ (m : ℕ). l < rank m (byte live m c)) at some.2)

pub down_end : (word_at : ℕ → ℕ) (l j : ℕ) (live : ℕ → ℕ → Bool) → IsDown word_at l l j → IsLiveSet live → Headers live word_at → IsFirstFree live l j
down_end word_at l j live down set headers =
    let none : l - l ≡ 0 = omega arith in
    going_end live l j set (subst (λ (x : ℕ). Going live l x j) none (down live set headers))

-- the range of numbers
pub down_range : (live : ℕ → ℕ → Bool) (word_at : ℕ → ℕ) (l n j : ℕ) → IsLiveSet live → Headers live word_at → IsDown word_at l n j → l ≤ n → IsPartition n j
down_range live word_at l n j set headers down le =
    let at : l + (n - l) ≡ n = omega arith in
    subst (λ (x : ℕ). IsPartition x j) at (down live set headers).partition
