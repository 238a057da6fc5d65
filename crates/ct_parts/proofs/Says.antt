-- The bytes are those of the format.
use Rattle.std.proofs.Common.{◌≡◌, ◌≢◌, ℕ, zero, suc, ◌+◌, ◌-◌, ◌*◌, ◌/◌, ◌^◌, ◌<◌, ◌≤◌, Bool, true, false, refl, sym, ap, ◌∙◌, subst, inl, inr, arith}
use Rattle.std.specs.Prelude.{◌==◌, nat_lt, ◌&&◌}
use Rattle.std.proofs.lemmas.Bool.{eqb-true, ltb-true, and_parts, cases_eq, cases_lt, cases_Bool, both_ways, and_from, eq-eqb, lt-ltb, and_left, and_right, ne_eqb, le-ltb, false_from_ne_true}
use Rattle.std.proofs.lemmas.Nat.{pow-add}
use Rattle.std.proofs.Math.Nat.{div-div-eq-div-mul}
use Rattle.ct_base.specs.Ranges.{eight, are_zero, rank, byte, shown, NoneIn, Clear, IsLiveSet, Headers}
use Rattle.ct_base.specs.Published.{StrictlyHolds, IsRoom, IsByte}
use Rattle.ct_parts.proofs.Bytes.{byte-live, byte-next, byte-start, summary-some, summary-zero, rank-some, rank-some_most, zero_from, none_in, some_child, fits-down, fits-here, fits-not_live, clear-fits, up-up}
use Rattle.ct_parts.proofs.Free.{free-clear, clear-free}
use Rattle.ct_parts.proofs.Descent.{byte_is}

-- a byte that is not 0 nor 16 is 32 and the rank
pub byte-some : (live : ℕ → ℕ → Bool) (n j : ℕ) → live n j ≡ false → byte live n j ≢ 0 → byte live n j ≡ 32 + rank n (byte live n j)
byte-some live zero j not ne = absurd (ne (byte-start live j not))
byte-some live (suc n) j not ne =
    let bs = eight (λ i. byte live n (8 * j + i)) in
    elim (cases_Bool (are_zero bs)) [
      | inl z ↦ absurd (ne (byte-next live n j not ∙ summary-zero n bs z))
      | inr some ↦
          let is = byte-next live n j not ∙ summary-some n bs some in
          omega (arith, is, rank-some (suc n) _ ne)
    ]

-- what holds a live partition has a byte that is not 0
pub holds-some : (live : ℕ → ℕ → Bool) (n j : ℕ) → StrictlyHolds live n j → byte live n j ≢ 0
holds-some live n j s z =
    let lower = s.lower in
    both_ways (live s.level s.number) (none_in live n j z (n - s.level) s.level s.number (omega arith) s.inside) s.is

-- and is not live
pub holds-not_live : (live : ℕ → ℕ → Bool) (n j : ℕ) → IsLiveSet live → StrictlyHolds live n j → live n j ≡ false
holds-not_live live n j set s =
    let lower = s.lower in
    let d = n - s.level - 1 in
    let level : s.level + suc d ≡ n = omega arith in
    let e : suc d ≡ n - s.level = omega arith in
    let number : s.number / 8 ^ suc d ≡ j = ap (λ k. s.number / 8 ^ k) e ∙ s.inside in
    subst (λ (x : ℕ). live x j ≡ false) level (subst (λ (y : ℕ). live (s.level + suc d) y ≡ false) number (set.apart s.level s.number d s.is))

-- a rank above a level is a clear range of at least the level inside
pub rank-clear : (live : ℕ → ℕ → Bool) (d l j : ℕ) → l < rank (l + d) (byte live (l + d) j) → (x : ℕ) × (x / 8 ^ d ≡ j) × Clear live (l + d) l x
rank-clear live zero l j lt =
    let same : l + 0 ≡ l = omega arith in
    let lt' : l < rank l (byte live l j) = subst (λ (n : ℕ). l < rank n (byte live n j)) same lt in (
      j,
      omega arith,
      record {
        down = fits-here live l j lt';
        up = λ e le.
            let none : e ≡ 0 = omega arith in
            let level : l ≡ l + e = omega arith in
            let number : j ≡ j / 8 ^ e = sym (ap (λ k. j / 8 ^ k) none ∙ omega arith) in
            subst (λ (n : ℕ). live n (j / 8 ^ e) ≡ false) level (subst (λ (y : ℕ). live l y ≡ false) number (fits-not_live live l l j lt'));
      },
    )
rank-clear live (suc d) l j lt =
    let level : l + suc d ≡ suc (l + d) = omega arith in
    let lt' : l < rank (suc (l + d)) (byte live (suc (l + d)) j) = subst (λ (n : ℕ). l < rank n (byte live n j)) level lt in
    let child = fits-down live (l + d) l j (omega arith) lt' in
    let c = 8 * j + child.0 in
    let below = rank-clear live d l c child.2 in
    let x = below.0 in
    let up : x / 8 ^ suc d ≡ j = sym (up-up x d) ∙ ap (λ k. k / 8) below.1 ∙ div8 j child.0 child.1 in (
      x,
      up,
      record {
        down = below.2.down;
        up = λ e le. elim (cases_eq e (suc d)) [
          | inl top ↦
              let number : j ≡ x / 8 ^ e = sym (ap (λ k. x / 8 ^ k) top ∙ up) in
              let level' : l + suc d ≡ l + e = omega arith in
              subst (λ (n : ℕ). live n (x / 8 ^ e) ≡ false) level' (subst (λ (y : ℕ). live (l + suc d) y ≡ false) number (fits-not_live live (l + suc d) l j lt))
          | inr low ↦ below.2.up e (omega arith)
        ];
      },
    )
  where
    div8 : (j t : ℕ) → t < 8 → (8 * j + t) / 8 ≡ j
    div8 j t lt = omega arith

pub further : (a i j k : ℕ) → i + j ≡ k → a / 8 ^ i / 8 ^ j ≡ a / 8 ^ k
further a i j k e = div-div-eq-div-mul a (8 ^ i) (8 ^ j) ∙ ap (λ x. a / x) (sym (pow-add 8 i j) ∙ ap (λ x. 8 ^ x) e)

-- what is clear up to a range that holds a live partition is clear
pub clear-above : (live : ℕ → ℕ → Bool) (n l x : ℕ) → IsLiveSet live → StrictlyHolds live n (x / 8 ^ (n - l)) → l ≤ n → Clear live n l x → Clear live 9 l x
clear-above live n l x set s le c =
    record {
      down = c.down;
      up = λ d high. elim (cases_lt n (l + d)) [
        | inr low ↦ c.up d (omega arith)
        | inl above ↦
            -- the range above holds the live partition too
            let lower = s.lower in
            let e = l + d - s.level - 1 in
            let level : s.level + suc e ≡ l + d = omega arith in
            let number : s.number / 8 ^ suc e ≡ x / 8 ^ d =
            sym (further s.number (n - s.level) (l + d - n) (suc e) (omega arith)) ∙ ap (λ k. k / 8 ^ (l + d - n)) s.inside ∙ further x (n - l) (l + d - n) d (omega arith) in
            subst (λ (k : ℕ). live k (x / 8 ^ d) ≡ false) level (subst (λ (y : ℕ). live (s.level + suc e) y ≡ false) number (set.apart s.level s.number e s.is))
      ];
    }

-- the byte of a range that holds a live partition
pub room_is : (live : ℕ → ℕ → Bool) (n j : ℕ) → n ≤ 9 → IsLiveSet live → StrictlyHolds live n j → IsRoom live n j (rank n (byte live n j))
room_is live n j nine set s =
    let some = rank-some_most live n j (holds-some live n j s) in
    record {
      most = λ l f.
          let le = f.inside.0 in
          let at : l + (n - l) ≡ n = omega arith in
          let c = free-clear live l f.number f.free in
          let shows = clear-fits live (n - l) l f.number (record { down = c.down; up = λ d low. c.up d (omega arith) }) in
          subst (λ (y : ℕ). l < rank n (byte live n y)) f.inside.1 (subst (λ (k : ℕ). l < rank k (byte live k (f.number / 8 ^ (n - l)))) at shows);
      some = λ l is.
          let le : l ≤ n = omega arith in
          let at : n ≡ l + (n - l) = omega arith in
          let lt : l < rank n (byte live n j) = omega arith in
          let found = rank-clear live (n - l) l j (subst (λ (k : ℕ). l < rank k (byte live k j)) at lt) in
          let x = found.0 in
          let c : Clear live n l x = subst (λ (k : ℕ). Clear live k l x) (sym at) found.2 in
          let c9 = clear-above live n l x set (subst (λ (y : ℕ). StrictlyHolds live n y) (sym found.1) s) le c in
          record { number = x; inside = (le, found.1); free = clear-free live l x set c9 };
    }

none-holds : (live : ℕ → ℕ → Bool) (n j : ℕ) → live n j ≡ false → (StrictlyHolds live n j → ⊥) → NoneIn live n j
none-holds live n j not none d k i at in_ =
    elim (cases_eq d 0) [
      | inl z ↦
          let level : n ≡ k = omega arith in
          let number : j ≡ i = sym in_ ∙ ap (λ x. i / 8 ^ x) z ∙ omega arith in
          subst (λ (x : ℕ). live x i ≡ false) level (subst (λ (x : ℕ). live n x ≡ false) number not)
      | inr some ↦
          let d_is : d ≡ n - k = omega arith in
          false_from_ne_true (live k i) (λ is. none (record { level = k; number = i; lower = omega arith; inside = ap (λ x. i / 8 ^ x) (sym d_is) ∙ in_; is = is }))
    ]

-- the byte that a header shows is that of the format
pub shown_is_byte : (live : ℕ → ℕ → Bool) (n j : ℕ) → n ≤ 9 → IsLiveSet live → IsByte live n j (shown live n j)
shown_is_byte live n j nine set =
    record {
      slot = λ is lt. rw (and_from (n == 9) (nat_lt j 10) (eq-eqb n 9 is) (lt-ltb j 10 lt)) refl;
      itself = λ off is. plain off ∙ byte-live live n j is;
      holds = λ off s.
          (rank n (byte live n j), plain off ∙ byte-some live n j (holds-not_live live n j set s) (holds-some live n j s), room_is live n j nine set s);
      none = λ off not none. plain off ∙ zero_from live n j (none-holds live n j not none);
    }
  where
    plain : (n ≡ 9 → 10 ≤ j) → shown live n j ≡ byte live n j
    plain off = elim (cases_eq n 9) [
      | inl is ↦ rw (and_right (n == 9) (nat_lt j 10) (le-ltb j 10 (off is))) refl
      | inr ne ↦ rw (and_left (n == 9) (nat_lt j 10) (ne_eqb n 9 ne)) refl
    ]

-- ---- the headers determine the set

pub live_by_byte : (live : ℕ → ℕ → Bool) (n j : ℕ) → byte live n j ≡ 16 → live n j ≡ true
live_by_byte live n j is =
    elim (cases_Bool (live n j)) [
      | inl t ↦ t
      | inr not ↦ absurd (omega (arith, is, byte-some live n j not (λ z. omega (arith, z, is))))
    ]

pub determined : (live other : ℕ → ℕ → Bool) (word_at : ℕ → ℕ) → IsLiveSet live → Headers live word_at → Headers other word_at → (n j : ℕ) → live n j ≡ true → other n j ≡ true
determined live other word_at set a b n j is =
    let part = set.partition n j is in
    live_by_byte other n j (sym (byte_is other word_at n j b part) ∙ byte_is live word_at n j a part ∙ byte-live live n j is)

-- ---- the format's words fix the byte

-- a byte that is not 0 is that of a live range, or of one that holds one
pub some-holds : (live : ℕ → ℕ → Bool) (n j : ℕ) → live n j ≡ false → byte live n j ≢ 0 → StrictlyHolds live n j
some-holds live zero j not ne = absurd (ne (byte-start live j not))
some-holds live (suc n) j not ne =
    let child = some_child live n j not ne in
    let c = child.0 in
    elim (cases_Bool (live n c)) [
      | inl is ↦ record { level = n; number = c; lower = omega arith; inside = ap (λ x. c / 8 ^ x) (one n) ∙ child.1; is = is }
      | inr off ↦
          let below = some-holds live n c off child.2 in
          let lower = below.lower in
          record {
            level = below.level;
            number = below.number;
            lower = omega arith;
            inside = sym (further below.number (n - below.level) 1 (suc n - below.level) (omega arith)) ∙ ap (λ x. x / 8) below.inside ∙ child.1;
            is = below.is;
          }
    ]
  where
    one : (n : ℕ) → suc n - n ≡ 1
    one n = omega arith

pub room-same : (live : ℕ → ℕ → Bool) (n j m m' : ℕ) → IsRoom live n j m → IsRoom live n j m' → m ≤ m'
room-same live n j zero m' a b = omega arith
room-same live n j (suc l) m' a b = b.most l (a.some l refl)

-- so the byte of the format is the one that is shown
pub byte-shown : (live : ℕ → ℕ → Bool) (n j b : ℕ) → n ≤ 9 → IsLiveSet live → IsByte live n j b → b ≡ shown live n j
byte-shown live n j b nine set is =
    elim (cases_Bool ((n == 9) && nat_lt j 10)) [
      | inl slot ↦
          let both = and_parts (n == 9) (nat_lt j 10) slot in
          rw slot (is.slot (eqb-true n 9 both.0) (ltb-true j 10 both.1))
      | inr plain ↦
          rw plain (go (λ e. elim (cases_lt j 10) [
            | inl low ↦ absurd (both_ways _ plain (and_from (n == 9) (nat_lt j 10) (eq-eqb n 9 e) (lt-ltb j 10 low)))
            | inr high ↦ high
          ]))
    ]
  where
    go : (n ≡ 9 → 10 ≤ j) → b ≡ byte live n j
    go off =
        elim (cases_Bool (live n j)) [
          | inl l ↦ is.itself off l ∙ sym (byte-live live n j l)
          | inr not ↦ elim (cases_eq (byte live n j) 0) [
            | inl z ↦ is.none off not (λ s. holds-some live n j s z) ∙ sym z
            | inr ne ↦
                let s = some-holds live n j not ne in
                let room = is.holds off s in
                let r = rank n (byte live n j) in
                let mine = room_is live n j nine set s in
                let up = room-same live n j room.0 r room.2 mine in
                let down = room-same live n j r room.0 mine room.2 in
                omega (arith, room.1, byte-some live n j not ne, up, down)
          ]
        ]
