-- Pieces cover each offset, and no two of them meet.
use Rattle.std.proofs.Common.{◌≡◌, ℕ, zero, suc, ◌+◌, ◌^◌, ◌<◌, ◌≤◌, ◌⊎◌, List, [], ◌∷◌, length, refl, sym, ap, subst, inl, inr, arith}
use Rattle.std.specs.Prelude.{nat_lt, All, Contains}
use Rattle.std.proofs.lemmas.Bool.{cases_lt, cond-true, cond-false, lt-ltb, le-ltb}
use Rattle.ct_base.specs.Pieces.{height_at, pieces_from, pieces, IsBlock}
use Rattle.ct_pieces.proofs.Least.{height_block}
use Rattle.ct_pieces.proofs.Steps.{width_pos}
use Rattle.ct_laws.specs.Cover.{LiesInOne, CoverOnce}

contains_cases : (y : ℕ × ℕ) (ys : List (ℕ × ℕ)) (x : ℕ × ℕ) → Contains (y ∷ ys) x → (y ≡ x) ⊎ Contains ys x
contains_cases y ys x c = by c.0 c.1 c.2
  where
    by : (k : ℕ) → k < length (y ∷ ys) → Rattle.std.specs.Prelude.slice_index_or (y ∷ ys) k x ≡ x → (y ≡ x) ⊎ Contains ys x
    by zero lt is = inl is
    by (suc k) lt is = inr (k, omega (arith, lt), is)

contains_first : (y : ℕ × ℕ) (ys : List (ℕ × ℕ)) → Contains (y ∷ ys) y
contains_first y ys = (0, omega arith, refl)

contains_later : (y : ℕ × ℕ) (ys : List (ℕ × ℕ)) (x : ℕ × ℕ) → Contains ys x → Contains (y ∷ ys) x
contains_later y ys x c = (suc c.0, let lt = c.1 in omega (arith, lt), c.2)

all_more : (P : ℕ × ℕ → Type 0) (y : ℕ × ℕ) (ys : List (ℕ × ℕ)) → P y → All P ys → All P (y ∷ ys)
all_more P y ys p rest zero d lt = p
all_more P y ys p rest (suc k) d lt = rest k d (omega (arith, lt))

-- the pieces that are left, where there are some and where there are none
left : (s a b n i : ℕ) → i < n → pieces_from (suc s) a b n i ≡ (i, height_at a b n i) ∷ pieces_from s a b n (i + 512 ^ height_at a b n i)
left s a b n i lt = cond-true _ _ _ (lt-ltb i n lt)

none_left : (s a b n i : ℕ) → n ≤ i → pieces_from (suc s) a b n i ≡ []
none_left s a b n i past = cond-false _ _ _ (le-ltb i n past)

blocks_from : (s a b n i : ℕ) → All (IsBlock a b n) (pieces_from s a b n i)
blocks_from zero a b n i = λ k d lt. absurd (omega (arith, lt))
blocks_from (suc s) a b n i = elim (cases_lt i n) [
  | inl lt ↦
      subst (All (IsBlock a b n)) (sym (left s a b n i lt))
      (all_more (IsBlock a b n) (i, height_at a b n i) (pieces_from s a b n (i + 512 ^ height_at a b n i)) (height_block a b n i lt) (blocks_from s a b n (i + 512 ^ height_at a b n i)))
  | inr past ↦ subst (All (IsBlock a b n)) (sym (none_left s a b n i past)) (λ k d lt. absurd (omega (arith, lt)))
]

-- each lies past the ones before it
from : (s a b n i : ℕ) (other : ℕ × ℕ) → Contains (pieces_from s a b n i) other → i ≤ other.0
from zero a b n i other c = absurd (let lt = c.1 in omega (arith, lt))
from (suc s) a b n i other c = elim (cases_lt i n) [
  | inl lt ↦ elim (contains_cases (i, height_at a b n i) (pieces_from s a b n (i + 512 ^ height_at a b n i)) other (subst (λ (l : List (ℕ × ℕ)). Contains l other) (left s a b n i lt) c)) [
    | inl is ↦ let first = ap (λ (p : ℕ × ℕ). p.0) is in omega (arith, first)
    | inr later ↦ let past = from s a b n (i + 512 ^ height_at a b n i) other later in omega (arith, past)
  ]
  | inr past ↦ let c' = subst (λ (l : List (ℕ × ℕ)). Contains l other) (none_left s a b n i past) c in absurd (let lt = c'.1 in omega (arith, lt))
]

once_from : (s a b n i : ℕ) → n ≤ i + s → (o : ℕ) → i ≤ o → o < n → LiesInOne (pieces_from s a b n i) o
once_from zero a b n i enough o low high = absurd (omega arith)
once_from (suc s) a b n i enough o low high =
    let h = height_at a b n i in
    let w = width_pos (height_at a b n i) in
    let rest = pieces_from s a b n (i + 512 ^ height_at a b n i) in
    subst (λ (l : List (ℕ × ℕ)). LiesInOne l o) (sym (left s a b n i (omega arith))) (elim (cases_lt o (i + 512 ^ height_at a b n i)) [
      | inl here ↦ record {
        block = (i, height_at a b n i);
        one = contains_first (i, height_at a b n i) (pieces_from s a b n (i + 512 ^ height_at a b n i));
        inside = record { from = low; to = here };
        only = λ other c inside. elim (contains_cases (i, height_at a b n i) (pieces_from s a b n (i + 512 ^ height_at a b n i)) other c) [
          | inl is ↦ sym is
          | inr later ↦ absurd (let past = from s a b n (i + 512 ^ height_at a b n i) other later in let at = inside.from in omega (arith, past, at, here))
        ];
      }
      | inr past ↦
          let more = once_from s a b n (i + 512 ^ height_at a b n i) (omega (arith, w)) o past high in
          record {
            block = more.block;
            one = contains_later (i, height_at a b n i) (pieces_from s a b n (i + 512 ^ height_at a b n i)) more.block more.one;
            inside = more.inside;
            only = λ other c inside. elim (contains_cases (i, height_at a b n i) (pieces_from s a b n (i + 512 ^ height_at a b n i)) other c) [
              | inl is ↦ absurd (
                  let first = ap (λ (p : ℕ × ℕ). p.0) is in
                  let wide = ap (λ (p : ℕ × ℕ). 512 ^ p.1) is in
                  let to = inside.to in omega (arith, first, wide, to, past))
              | inr later ↦ more.only other later inside
            ];
          }
    ])

pub are_blocks : (a b n : ℕ) → All (IsBlock a b n) (pieces a b n)
are_blocks a b n = blocks_from n a b n 0

pub cover_once : (a b n : ℕ) → CoverOnce (pieces a b n) n
cover_once a b n o lt = once_from n a b n 0 (omega arith) o (omega arith) lt
