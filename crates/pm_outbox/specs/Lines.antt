-- The words of a line.
use Rattle.std.specs.Prelude.{ℕ, ◌+◌, ◌*◌, List, [], ◌∷◌, slice_index}

-- the eight words of a line
abbrev pub line_at : List ℕ → ℕ → List ℕ
line_at words line =
    slice_index words (8 * line) ∷ slice_index words (8 * line + 1) ∷ slice_index words (8 * line + 2) ∷ slice_index words (8 * line + 3)
    ∷ slice_index words (8 * line + 4) ∷ slice_index words (8 * line + 5) ∷ slice_index words (8 * line + 6) ∷ slice_index words (8 * line + 7) ∷ []
