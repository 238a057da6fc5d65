-- A list of numbers in which none comes twice, and how many inodes are live by it.
use Rattle.std.proofs.Common.{◌≡◌, ℕ, zero, suc, ◌<◌, ◌≤◌, Bool, true, false, List, [], ◌∷◌, ◌++◌, length, refl, ◌⊎◌, inl, inr, arith}
use Rattle.std.specs.Prelude.{◌==◌, ◌&&◌, ◌||◌, nat_lt, not}
use Rattle.std.proofs.lemmas.Bool.{cases_Bool, eq-eqb, eqb-true, ne_eqb, or_cases, or_left, or_right, and_parts, and_from, both_ways, false_from_ne_true, ltb-true, lt-ltb, not-true, not_from_false, not_from_true}
use Rattle.ct_base.specs.Inode.{inode, IsLive}
use Rattle.ct_base.specs.Wants.{count_below}
use Rattle.ct_image.proofs.MissingLess.{count_below-less, count_below-none, count_below-le}
use Rattle.ct_state.specs.Live.{live_count}

-- the number is one of the list
abbrev pub IsAmong : ℕ → List ℕ → Type 0
IsAmong n [] = ⊥
IsAmong n (x ∷ xs) = (n ≡ x) ⊎ IsAmong n xs

-- no number comes twice
abbrev pub AreOnce : List ℕ → Type 0
AreOnce [] = Unit {0}
AreOnce (x ∷ xs) = (IsAmong x xs → ⊥) × AreOnce xs

-- ---- lists end to end

pub among_left : (n : ℕ) (xs ys : List ℕ) → IsAmong n xs → IsAmong n (xs ++ ys)
among_left n [] ys h = absurd h
among_left n (x ∷ xs) ys (inl is) = inl is
among_left n (x ∷ xs) ys (inr h) = inr (among_left n xs ys h)

pub among_right : (n : ℕ) (xs ys : List ℕ) → IsAmong n ys → IsAmong n (xs ++ ys)
among_right n [] ys h = h
among_right n (x ∷ xs) ys h = inr (among_right n xs ys h)

pub among_cases : (n : ℕ) (xs ys : List ℕ) → IsAmong n (xs ++ ys) → IsAmong n xs ⊎ IsAmong n ys
among_cases n [] ys h = inr h
among_cases n (x ∷ xs) ys (inl is) = inl (inl is)
among_cases n (x ∷ xs) ys (inr h) = elim (among_cases n xs ys h) [ inl a ↦ inl (inr a) | inr b ↦ inr b ]

pub once_append : (xs ys : List ℕ) → AreOnce xs → AreOnce ys → ((n : ℕ) → IsAmong n xs → IsAmong n ys → ⊥) → AreOnce (xs ++ ys)
once_append [] ys a b apart = b
once_append (x ∷ xs) ys a b apart = (
  λ h. elim (among_cases x xs ys h) [ inl l ↦ a.0 l | inr r ↦ apart x (inl refl) r ],
  once_append xs ys a.1 b (λ n l r. apart n (inr l) r),
)

-- ---- the list as a test

abbrev pub has : List ℕ → ℕ → Bool
has [] n = false
has (x ∷ xs) n = (n == x) || has xs n

among_has : (n : ℕ) (xs : List ℕ) → IsAmong n xs → has xs n ≡ true
among_has n [] h = absurd h
among_has n (x ∷ xs) (inl is) = or_left (n == x) (has xs n) (eq-eqb n x is)
among_has n (x ∷ xs) (inr h) = or_right (n == x) (has xs n) (among_has n xs h)

has_among : (n : ℕ) (xs : List ℕ) → has xs n ≡ true → IsAmong n xs
has_among n [] is = absurd (both_ways false refl is)
has_among n (x ∷ xs) is = elim (or_cases (n == x) (has xs n) is) [ inl here ↦ inl (eqb-true n x here) | inr more ↦ inr (has_among n xs more) ]

-- as many numbers pass it as the list is long
count_once : (n : ℕ) (xs : List ℕ) → AreOnce xs → ((x : ℕ) → IsAmong x xs → x < n) → count_below (has xs) n ≡ length xs
count_once n [] once below = count_below-none (has []) n (λ x lt. refl)
count_once n (x ∷ xs) once below =
    let rest = count_once n xs once.1 (λ y h. below y (inr h)) in
    let is : has (x ∷ xs) x ≡ true = among_has x (x ∷ xs) (inl refl) in
    let not : has xs x ≡ false = false_from_ne_true (has xs x) (λ t. once.0 (has_among x xs t)) in
    let one = count_below-less (has (x ∷ xs)) (has xs) n x (below x (inl refl)) is not (λ y other. rw (ne_eqb y x other) refl) in
    omega (arith, rest, one)

-- ---- the live inodes as a test

abbrev is_live : (ℕ → ℕ) → ℕ → Bool
is_live b i = nat_lt 0 i && not ((inode b i).kind == 0)

live_from : (b : ℕ → ℕ) (n i : ℕ) → i < suc n → is_live b i ≡ true → IsLive b n i
live_from b n i lt is =
    let both = and_parts (nat_lt 0 i) (not ((inode b i).kind == 0)) is in
    record {
      number = record { from = omega (arith, ltb-true 0 i both.0); to = omega arith };
      used = λ z. both_ways ((inode b i).kind == 0) (not-true _ both.1) (eq-eqb (inode b i).kind 0 z);
    }

live_is : (b : ℕ → ℕ) (n i : ℕ) → IsLive b n i → is_live b i ≡ true
live_is b n i l =
    and_from (nat_lt 0 i) (not ((inode b i).kind == 0))
    (lt-ltb 0 i (omega (arith, l.number.from)))
    (not_from_false _ (ne_eqb (inode b i).kind 0 l.used))

count_live : (b : ℕ → ℕ) (n : ℕ) → live_count b n ≡ count_below (is_live b) (suc n)
unfolding live_count count_below
count_live b zero = refl
count_live b (suc n) =
    let rest : live_count b n ≡ count_below (is_live b) (suc n) = count_live b n in
    elim (cases_Bool ((inode b (suc n)).kind == 0)) [
      | inl free ↦
          let off : is_live b (suc n) ≡ false = false_from_ne_true (is_live b (suc n)) (λ t. both_ways _ (not_from_true _ free) (and_parts (nat_lt 0 (suc n)) _ t).1) in
          rw (off, free) (omega (arith, rest))
      | inr used ↦
          let on : is_live b (suc n) ≡ true = and_from (nat_lt 0 (suc n)) _ (lt-ltb 0 (suc n) (omega arith)) (not_from_false _ used) in
          rw (on, used) (omega (arith, rest))
    ]

-- ---- lists of live inodes

-- live inodes that are apart are at most as many as there are
pub listed_most : (b : ℕ → ℕ) (n : ℕ) (xs : List ℕ) → AreOnce xs → ((x : ℕ) → IsAmong x xs → IsLive b n x) → length xs ≤ live_count b n
listed_most b n xs once live =
    let count = count_once (suc n) xs once (λ x h. omega (arith, (live x h).number.to)) in
    let fewer = count_below-le (has xs) (is_live b) (suc n) (λ x lt is. live_is b n x (live x (has_among x xs is))) in
    omega (arith, count, fewer, count_live b n)

-- and where each is among them, as many
pub listed_all : (b : ℕ → ℕ) (n : ℕ) (xs : List ℕ) → AreOnce xs → ((x : ℕ) → IsAmong x xs → IsLive b n x) → ((x : ℕ) → IsLive b n x → IsAmong x xs) → length xs ≡ live_count b n
listed_all b n xs once live all =
    let most = listed_most b n xs once live in
    let count = count_once (suc n) xs once (λ x h. omega (arith, (live x h).number.to)) in
    let more = count_below-le (is_live b) (has xs) (suc n) (λ x lt is. among_has x xs (all x (live_from b n x lt is))) in
    omega (arith, most, count, more, count_live b n)
