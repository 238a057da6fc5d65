-- The parts of a list of bytes, between the bytes of one value.
use Rattle.std.specs.Prelude.{◌≡◌, ℕ, ◌+◌, ◌==◌, List, [], ◌∷◌, length, MatchOption}
use Rattle.std.specs.List.{slice_split}
use Rattle.std.specs.Borrow.{Bor}
use Rattle.std.specs.declared.option.Option.{Option}

-- n bytes of the separator make n + 1 parts, of which some may be empty
abbrev pub parts_at : ℕ → List ℕ → List (List ℕ)
parts_at separator bytes = slice_split (λ b. b == separator) bytes

-- the first part, and what stands after its separator, where there is one
abbrev pub IsFirstPart : ℕ → List ℕ → List ℕ → Option (Bor (List ℕ)) → Type 0
IsFirstPart separator bytes first more =
    MatchOption more (parts_at separator bytes ≡ first ∷ [])
    (λ rest. (parts_at separator bytes ≡ first ∷ parts_at separator rest.now) × (length bytes ≡ length first + 1 + length rest.now))
