-- Where the walk of a dump stands.
use Rattle.std.specs.Prelude.{◌≡◌, ℕ, Bool, true, false, List, [], ◌∷◌, is_some, IsOkAnd}
use Rattle.std.specs.declared.result.Result.{Result}
use Rattle.ct_base.specs.Path.{names_of, is_name}
use Rattle.ct_tree.specs.Tree.{Tree, File, Dir}
use Rattle.ct_tree.specs.Resolve.{child, and_then}
use Rattle.ct_tree.specs.Checks.{at}
use Rattle.ct_tree.specs.declared.call.Refusal.{Refusal}
use Rattle.ct_dump.specs.Looks.{IsNode}

-- a path that can be led on to an entry: the root's is the empty text, and no other ends with a slash
abbrev pub IsPlace : List ℕ → Type 0
IsPlace [] = Unit {0}
IsPlace (x ∷ []) = ⊥
IsPlace (x ∷ y ∷ ys) = is_some (names_of (x ∷ y ∷ ys)) ≡ true

-- a node lies there of which the fact holds
abbrev pub LiesAt : Tree → List ℕ → (Tree → Type 0) → Type 0
LiesAt t path Holds = IsPlace path × IsOkAnd (at t path) Holds

-- what lies under a name in the directory at a path
abbrev pub entry_at : Tree → List ℕ → List ℕ → Result Tree Refusal
entry_at t path name = and_then (at t path) (λ n. child n name)

abbrev pub HasEntry : Tree → List ℕ → List ℕ → Type 0
HasEntry t path name = IsPlace path × (is_name name ≡ true) × IsOkAnd (entry_at t path name) IsNode

abbrev pub is_dir : Tree → Bool
is_dir (File bytes) = false
is_dir (Dir es) = true
