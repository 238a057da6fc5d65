-- What the bytes say.
use Rattle.std.proofs.Common.{◌≡◌, ◌≢◌, ℕ, zero, suc, ◌+◌, ◌-◌, ◌*◌, ◌/◌, ◌%◌, ◌^◌, ◌<◌, ◌≤◌, Bool, true, false, List, [], ◌∷◌, length, get_or, take, refl, sym, ap, ◌∙◌, subst, ◌⊎◌, inl, inr, arith}
use Rattle.std.specs.Prelude.{◌==◌, max}
use Rattle.std.proofs.lemmas.List.{take_more}
use Rattle.std.proofs.lemmas.List.Recursion.{max_push}
use Rattle.std.proofs.lemmas.Bool.{cases_eq, cases_lt, cases_Bool, ne_eqb, eqb-true, eqb-false, and_parts, and_cases, true≢false}
use Rattle.std.proofs.Math.Nat.{pow-suc, pow-succ', div-div-eq-div-mul}
use Rattle.ct_base.specs.Ranges.{eight, are_zero, rank, best, summary, byte, NoneIn, Clear}

-- ---- lists of eight

-- element t of the eight
pub get-eight : (f : ℕ → ℕ) (t : ℕ) → t < 8 → get_or (eight f) t 0 ≡ f t
get-eight f zero lt = refl
get-eight f (suc zero) lt = refl
get-eight f (suc (suc zero)) lt = refl
get-eight f (suc (suc (suc zero))) lt = refl
get-eight f (suc (suc (suc (suc zero)))) lt = refl
get-eight f (suc (suc (suc (suc (suc zero))))) lt = refl
get-eight f (suc (suc (suc (suc (suc (suc zero)))))) lt = refl
get-eight f (suc (suc (suc (suc (suc (suc (suc zero))))))) lt = refl
get-eight f (suc (suc (suc (suc (suc (suc (suc (suc t)))))))) lt = absurd (omega arith)

-- all are zero, or one is not
pub are_zero-at : (bs : List ℕ) (t : ℕ) → are_zero bs ≡ true → t < length bs → get_or bs t 0 ≡ 0
are_zero-at [] t z lt = absurd (omega arith)
are_zero-at (b ∷ bs) zero z lt = eqb-true b 0 (and_parts (b == 0) (are_zero bs) z).0
are_zero-at (b ∷ bs) (suc t) z lt = are_zero-at bs t (and_parts (b == 0) (are_zero bs) z).1 (omega arith)

pub are_zero-from : (bs : List ℕ) → ((t : ℕ) → t < length bs → get_or bs t 0 ≡ 0) → are_zero bs ≡ true
are_zero-from [] all = refl
are_zero-from (b ∷ bs) all = rw (all 0 (omega arith)) (are_zero-from bs (λ t lt. all (suc t) (omega arith)))

max_cases : (a b : ℕ) → (max a b ≡ a) ⊎ (max a b ≡ b)
max_cases a b = elim (cases_lt a b) [ inl lt ↦ inr (omega arith) | inr le ↦ inl (omega arith) ]

-- the best is at least each, and is one of them
pub best-at : (n : ℕ) (bs : List ℕ) (t : ℕ) → t < length bs → rank n (get_or bs t 0) ≤ best n bs
best-at n [] t lt = absurd (omega arith)
best-at n (b ∷ bs) zero lt = omega arith
best-at n (b ∷ bs) (suc t) lt = omega (arith, best-at n bs t (omega arith))

pub best-above : (n l : ℕ) (bs : List ℕ) → l < best n bs → (t : ℕ) × (t < length bs) × (l < rank n (get_or bs t 0))
best-above n l [] lt = absurd (omega arith)
best-above n l (b ∷ bs) lt =
    elim (max_cases (rank n b) (best n bs)) [
      | inl first ↦ (0, omega arith, omega (arith, first))
      | inr other ↦
          let more = best-above n l bs (omega (arith, other)) in
          (suc more.0, omega (arith, more.1), more.2)
    ]

pub best-most : (n m : ℕ) (bs : List ℕ) → ((t : ℕ) → t < length bs → rank n (get_or bs t 0) ≤ m) → best n bs ≤ m
best-most n m [] all = omega arith
best-most n m (b ∷ bs) all =
    let rest = best-most n m bs (λ t lt. all (suc t) (omega arith)) in
    let first = all 0 (omega arith) in
    elim (max_cases (rank n b) (best n bs)) [ inl e ↦ omega (arith, e) | inr e ↦ omega (arith, e) ]

-- ---- one range

pub byte-live : (live : ℕ → ℕ → Bool) (n j : ℕ) → live n j ≡ true → byte live n j ≡ 16
unfolding byte
byte-live live zero j is = rw is refl
byte-live live (suc n) j is = rw is refl

pub byte-start : (live : ℕ → ℕ → Bool) (j : ℕ) → live 0 j ≡ false → byte live 0 j ≡ 0
unfolding byte
byte-start live j not = rw not refl

pub byte-next : (live : ℕ → ℕ → Bool) (n j : ℕ) → live (suc n) j ≡ false → byte live (suc n) j ≡ summary n (eight (λ i. byte live n (8 * j + i)))
unfolding byte
byte-next live n j not = rw not refl

pub summary-zero : (n : ℕ) (bs : List ℕ) → are_zero bs ≡ true → summary n bs ≡ 0
unfolding summary
summary-zero n bs is = rw is refl

pub summary-some : (n : ℕ) (bs : List ℕ) → are_zero bs ≡ false → summary n bs ≡ 32 + best n bs
unfolding summary
summary-some n bs not = rw not refl

pub rank-zero : (n b : ℕ) → b ≡ 0 → rank n b ≡ n + 1
rank-zero n b z = rw z refl

pub rank-some : (n b : ℕ) → b ≢ 0 → rank n b ≡ b - 32
rank-some n b ne = rw (ne_eqb b 0 ne) refl

some_most : (live : ℕ → ℕ → Bool) (n j : ℕ) → ((t : ℕ) → t < 8 → rank n (byte live n (8 * j + t)) ≤ n + 1) → byte live (suc n) j ≢ 0 → rank (suc n) (byte live (suc n) j) ≤ suc n
some_most live n j all ne =
    let b = byte live (suc n) j in
    let bs = eight (λ i. byte live n (8 * j + i)) in
    let some = rank-some (suc n) b ne in
    elim (cases_Bool (live (suc n) j)) [
      | inl is ↦ omega (arith, some, byte-live live (suc n) j is)
      | inr not ↦
          elim (cases_Bool (are_zero bs)) [
            | inl z ↦ absurd (ne (byte-next live n j not ∙ summary-zero n bs z))
            | inr nz ↦
                let most = best-most n (n + 1) bs (λ t lt. subst (λ (k : ℕ). rank n k ≤ n + 1) (sym (get-eight (λ i. byte live n (8 * j + i)) t lt)) (all t lt)) in
                omega (arith, some, byte-next live n j not ∙ summary-some n bs nz, most)
          ]
    ]

-- the rank of a range is at most 1 and its level
pub rank-most : (live : ℕ → ℕ → Bool) (n j : ℕ) → rank n (byte live n j) ≤ n + 1
rank-most live zero j =
    elim (cases_Bool (live 0 j)) [
      | inl is ↦ rw (byte-live live 0 j is) (omega arith)
      | inr not ↦ rw (byte-start live j not) (omega arith)
    ]
rank-most live (suc n) j =
    elim (cases_eq (byte live (suc n) j) 0) [
      | inl z ↦ omega (arith, rank-zero (suc n) _ z)
      | inr ne ↦ omega (arith, some_most live n j (λ t lt. rank-most live n (8 * j + t)) ne)
    ]

-- and where its byte is not 0, at most its level
pub rank-some_most : (live : ℕ → ℕ → Bool) (n j : ℕ) → byte live n j ≢ 0 → rank n (byte live n j) ≤ n
rank-some_most live zero j ne =
    elim (cases_Bool (live 0 j)) [
      | inl is ↦ rw (byte-live live 0 j is) (omega arith)
      | inr not ↦ absurd (ne (byte-start live j not))
    ]
rank-some_most live (suc n) j ne = some_most live n j (λ t lt. rank-most live n (8 * j + t)) ne

-- the byte of a live range is 16, and that of any other is at most 32 and its level
pub byte-most : (live : ℕ → ℕ → Bool) (n j : ℕ) → byte live n j ≤ 32 + n
byte-most live n j =
    elim (cases_eq (byte live n j) 0) [
      | inl z ↦ omega (arith, z)
      | inr ne ↦ omega (arith, rank-some n _ ne, rank-some_most live n j ne)
    ]

-- ---- a byte of 0

pub zero-not_live : (live : ℕ → ℕ → Bool) (n j : ℕ) → byte live n j ≡ 0 → live n j ≡ false
zero-not_live live n j z =
    elim (cases_Bool (live n j)) [ inl is ↦ absurd (omega (arith, z, byte-live live n j is)) | inr not ↦ not ]

-- the byte of a child, by the list of the eight
pub get-child : (live : ℕ → ℕ → Bool) (n j c : ℕ) → c / 8 ≡ j → get_or (eight (λ i. byte live n (8 * j + i))) (c % 8) 0 ≡ byte live n c
get-child live n j c up =
    let is : 8 * j + c % 8 ≡ c = omega (arith, up) in
    get-eight (λ i. byte live n (8 * j + i)) (c % 8) (omega arith) ∙ ap (byte live n) is

pub zero-child : (live : ℕ → ℕ → Bool) (n j c : ℕ) → byte live (suc n) j ≡ 0 → c / 8 ≡ j → byte live n c ≡ 0
zero-child live n j c z up =
    let bs = eight (λ t. byte live n (8 * j + t)) in
    elim (cases_Bool (are_zero bs)) [
      | inl all ↦ sym (get-child live n j c up) ∙ are_zero-at bs (c % 8) all (omega arith)
      | inr some ↦ absurd (omega (arith, z, byte-next live n j (zero-not_live live (suc n) j z) ∙ summary-some n bs some))
    ]

-- two steps up are one
pub up-up : (i d : ℕ) → i / 8 ^ d / 8 ≡ i / 8 ^ suc d
up-up i d = div-div-eq-div-mul i (8 ^ d) 8 ∙ ap (λ k. i / k) (sym (pow-suc 8 d))

pub up-down : (i d : ℕ) → i / 8 / 8 ^ d ≡ i / 8 ^ suc d
up-down i d = div-div-eq-div-mul i 8 (8 ^ d) ∙ ap (λ k. i / k) (sym (pow-succ' 8 d))

-- nothing lies in a range whose byte is 0
pub none_in : (live : ℕ → ℕ → Bool) (n j : ℕ) → byte live n j ≡ 0 → NoneIn live n j
none_in live n j z zero k i at in_ =
    let level : n ≡ k = omega arith in
    let number : j ≡ i = omega (arith, in_) in
    subst (λ (x : ℕ). live k x ≡ false) number (subst (λ (x : ℕ). live x j ≡ false) level (zero-not_live live n j z))
none_in live zero j z (suc d) k i at in_ = absurd (omega arith)
none_in live (suc n) j z (suc d) k i at in_ =
    none_in live n (i / 8 ^ d) (zero-child live n j (i / 8 ^ d) z (up-up i d ∙ in_)) d k i (omega arith) refl

-- and a range in which nothing lies has the byte 0
pub zero_from : (live : ℕ → ℕ → Bool) (n j : ℕ) → NoneIn live n j → byte live n j ≡ 0
zero_from live zero j none = byte-start live j (none 0 0 j (omega arith) (omega arith))
zero_from live (suc n) j none =
    let bs = eight (λ t. byte live n (8 * j + t)) in
    byte-next live n j (none 0 (suc n) j (omega arith) (omega arith))
    ∙ summary-zero n bs (are_zero-from bs (λ t lt.
    get-eight (λ t. byte live n (8 * j + t)) t lt
    ∙ zero_from live n (8 * j + t) (λ d k i at in_.
    none (suc d) k i (omega arith) (sym (up-up i d) ∙ ap (λ x. x / 8) in_ ∙ div8 j t lt))))
  where
    div8 : (j t : ℕ) → t < 8 → (8 * j + t) / 8 ≡ j
    div8 j t lt = omega arith

-- ---- descent

-- a child with a free range of the level in it makes its parent one, where the parent is not live
pub fits-up : (live : ℕ → ℕ → Bool) (n l c : ℕ) → live (suc n) (c / 8) ≡ false → l ≤ n → l < rank n (byte live n c) → l < rank (suc n) (byte live (suc n) (c / 8))
fits-up live n l c not le lt =
    let j = c / 8 in
    let bs = eight (λ t. byte live n (8 * j + t)) in
    let b = byte live (suc n) j in
    elim (cases_Bool (are_zero bs)) [
      | inl all ↦ omega (arith, rank-zero (suc n) b (byte-next live n j not ∙ summary-zero n bs all))
      | inr some ↦
          let is : b ≡ 32 + best n bs = byte-next live n j not ∙ summary-some n bs some in
          let this : rank n (byte live n c) ≤ best n bs = subst (λ (x : ℕ). rank n x ≤ best n bs) (get-child live n j c refl) (best-at n bs (c % 8) (omega arith)) in
          omega (arith, is, this, rank-some (suc n) b (λ z. omega (arith, is, z)))
    ]

-- and a range above the level with one in it is not live, and has a child with one in it
pub fits-down : (live : ℕ → ℕ → Bool) (n l j : ℕ) → l ≤ n → l < rank (suc n) (byte live (suc n) j) → (t : ℕ) × (t < 8) × (l < rank n (byte live n (8 * j + t)))
fits-down live n l j le lt =
    let bs = eight (λ t. byte live n (8 * j + t)) in
    let b = byte live (suc n) j in
    elim (cases_Bool (live (suc n) j)) [
      | inl is ↦ let is16 = byte-live live (suc n) j is in absurd (omega (arith, is16, rank-some (suc n) b (λ z. omega (arith, is16, z))))
      | inr not ↦
          elim (cases_Bool (are_zero bs)) [
            | inl all ↦
                (0, omega arith, omega (arith, rank-zero n (byte live n (8 * j + 0)) (sym (get-eight (λ t. byte live n (8 * j + t)) 0 (omega arith)) ∙ are_zero-at bs 0 all (omega arith))))
            | inr some ↦
                let is : b ≡ 32 + best n bs = byte-next live n j not ∙ summary-some n bs some in
                let more = best-above n l bs (omega (arith, is, rank-some (suc n) b (λ z. omega (arith, is, z)))) in
                (more.0, more.1, subst (λ (x : ℕ). l < rank n x) (get-eight (λ t. byte live n (8 * j + t)) more.0 more.1) more.2)
          ]
    ]

pub fits-not_live : (live : ℕ → ℕ → Bool) (n l j : ℕ) → l < rank n (byte live n j) → live n j ≡ false
fits-not_live live n l j lt =
    elim (cases_Bool (live n j)) [
      | inl is ↦ let is16 = byte-live live n j is in absurd (omega (arith, is16, rank-some n (byte live n j) (λ z. omega (arith, is16, z))))
      | inr not ↦ not
    ]

-- a range of the level itself with one in it is that one
pub fits-here : (live : ℕ → ℕ → Bool) (l x : ℕ) → l < rank l (byte live l x) → NoneIn live l x
fits-here live l x lt =
    elim (cases_eq (byte live l x) 0) [
      | inl z ↦ none_in live l x z
      | inr ne ↦ absurd (omega (arith, rank-some_most live l x ne))
    ]

-- what is clear shows in each range above it
pub clear-fits : (live : ℕ → ℕ → Bool) (d l x : ℕ) → Clear live (l + d) l x → l < rank (l + d) (byte live (l + d) (x / 8 ^ d))
clear-fits live zero l x clear =
    let here : byte live (l + 0) (x / 8 ^ 0) ≡ 0 = ap (λ k. byte live k (x / 8 ^ 0)) (omega arith) ∙ ap (byte live l) (omega arith) ∙ zero_from live l x clear.down in
    omega (arith, rank-zero (l + 0) _ here)
clear-fits live (suc d) l x clear =
    let below = clear-fits live d l x (record { down = clear.down; up = λ e le. clear.up e (omega arith) }) in
    let P : ℕ → ℕ → Type 0 = λ n j. live n j ≡ false in
    let level : l + suc d ≡ suc (l + d) = omega arith in
    let not : live (suc (l + d)) (x / 8 ^ d / 8) ≡ false =
    subst (λ (n : ℕ). live n (x / 8 ^ d / 8) ≡ false) level (subst (λ (j : ℕ). live (l + suc d) j ≡ false) (sym (up-up x d)) (clear.up (suc d) (omega arith))) in
    let above = fits-up live (l + d) l (x / 8 ^ d) not (omega arith) below in
    subst (λ (n : ℕ). l < rank n (byte live n (x / 8 ^ suc d))) (sym level) (subst (λ (j : ℕ). l < rank (suc (l + d)) (byte live (suc (l + d)) j)) (up-up x d) above)

-- one more of a list
pub best_more : (n : ℕ) (bs : List ℕ) (i : ℕ) → i < length bs → best n (take (i + 1) bs) ≡ max (best n (take i bs)) (rank n (get_or bs i 0))
best_more n bs i lt =
    ap (best n) (take_more bs i 0 lt) ∙ max_push (best n) (rank n) refl (λ x xs. refl) (take i bs) (get_or bs i 0)

-- one of a list that is not all 0
pub some-not_zero : (bs : List ℕ) → are_zero bs ≡ false → (t : ℕ) × (t < length bs) × (get_or bs t 0 ≢ 0)
some-not_zero [] not = absurd (true≢false not)
some-not_zero (b ∷ bs) not =
    elim (cases_eq b 0) [
      | inr ne ↦ (0, omega arith, ne)
      | inl z ↦
          let rest = some-not_zero bs (elim (and_cases (b == 0) (are_zero bs) not) [ inl off ↦ absurd (eqb-false b 0 off z) | inr more ↦ more ]) in
          (suc rest.0, omega (arith, rest.1), rest.2)
    ]

-- a range that is not live and whose byte is not 0 has such a child
pub some_child : (live : ℕ → ℕ → Bool) (n j : ℕ) → live (suc n) j ≡ false → byte live (suc n) j ≢ 0 → (c : ℕ) × (c / 8 ≡ j) × (byte live n c ≢ 0)
some_child live n j not ne =
    let f = λ (t : ℕ). byte live n (8 * j + t) in
    elim (cases_Bool (are_zero (eight f))) [
      | inl z ↦ absurd (ne (byte-next live n j not ∙ summary-zero n (eight f) z))
      | inr some ↦
          let s = some-not_zero (eight f) some in
          let lt = s.1 in
          (8 * j + s.0, omega arith, λ z. s.2 (get-eight f s.0 s.1 ∙ z))
    ]
