-- Which lines have an item.
use Rattle.std.proofs.Common.{◌≡◌, ℕ, ◌≤◌, List, [], ◌∷◌, length, refl, arith}
use Rattle.ct_script.specs.Grammar.{chopped}
use Rattle.ct_script.specs.Script.{items_at}
use Rattle.ct_tree.specs.Runs.{Item}

-- a line of two bytes or more has one
pub long_line : (line : List ℕ) (item : Item) → 2 ≤ length line → items_at (chopped line) item ≡ item ∷ []
long_line [] item long = absurd (omega (arith, long))
long_line (x ∷ []) item long = absurd (omega (arith, long))
long_line (x ∷ y ∷ ys) item long = refl
