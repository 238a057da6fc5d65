-- What a list of names leads to in a tree.
use Rattle.std.specs.Prelude.{◌≡◌, ℕ, List, [], ◌∷◌, Some}
use Rattle.ct_tree.specs.Tree.{Tree}
use Rattle.ct_tree.specs.Entries.{lookup}
use Rattle.ct_tree.specs.Resolve.{entries_in}

unfoldable pub LeadsTo : Tree → List (List ℕ) → Tree → Type 0
LeadsTo t [] n = t ≡ n
LeadsTo t (x ∷ xs) n = (child : Tree) × (lookup x (entries_in t) ≡ Some child) × LeadsTo child xs n
