-- The first part of a list, by the place of the first element that ends a part.
use Rattle.std.proofs.Common.{◌≡◌, ◌∙◌, ◌+◌, ◌<◌, ℕ, Bool, true, false, List, [], ◌∷◌, length, take, drop, refl, ap, arith, Some, None, if◌then◌else◌}
use Rattle.std.specs.Prelude.{position, nat_lt}
use Rattle.std.specs.List.{slice_split, position_or_len}
use Rattle.std.proofs.lemmas.List.Splits.{slice_split_none, slice_split_first}
use Rattle.std.proofs.lemmas.List.Sums.{fails_before_first}
use Rattle.std.proofs.lemmas.Bool.Decides.{nat_tests}

none_at : (b : Bool) (k : ℕ) → (if b then Some k else None) ≡ None → b ≡ false
none_at true k h = absurd (cc)
none_at false k h = refl

some_at : (b : Bool) (k i : ℕ) → (if b then Some k else None) ≡ Some i → (b ≡ true) × (k ≡ i)
some_at true k i h = (refl, (cc))
some_at false k i h = absurd (cc)

module _ (p : ℕ → Bool) (xs : List ℕ) where
  -- where no element ends it, the first part is all
  pub split_last : position p xs ≡ None → slice_split p xs ≡ xs ∷ []
  split_last h =
      let at : nat_lt (position_or_len p xs) (length xs) ≡ false = none_at _ _ h in
      slice_split_none p xs (λ k d l. fails_before_first p xs k d (grind (arith, nat_tests)))

  -- the first part, and the parts past the element that ends it
  pub split_first : (i : ℕ) → position p xs ≡ Some i → (slice_split p xs ≡ take i xs ∷ slice_split p (drop (i + 1) xs)) × (i < length xs)
  split_first i h =
      let at = some_at (nat_lt (position_or_len p xs) (length xs)) _ _ h in
      let within : position_or_len p xs < length xs = grind (arith, nat_tests) in
      (slice_split_first p xs 0 within ∙ ap (λ k. take k xs ∷ slice_split p (drop (k + 1) xs)) at.1, omega (arith, within, at.1))
