-- What holds where a name has a row among the rows of a directory, and where it has none.
use Rattle.std.specs.Prelude.{◌≡◌, ℕ, ◌<◌, ◌≤◌, List, ◌∷◌, ◌++◌, length, take, drop, slice_index_or, slice_set, Some, None, Ok, Err, is_some, true, remove}
use Rattle.std.specs.declared.result.Result.{Result}
use Rattle.ct_node.specs.declared.node.Entry.{Entry}
use Rattle.ct_tree.specs.Tree.{Tree}
use Rattle.ct_tree.specs.Entries.{lookup, put_entry, cut_entry}
use Rattle.ct_node.specs.Listed.{listed}

-- the row with another node
abbrev pub with_node : Entry → Tree → Entry
with_node e n = record e { node = n }

-- what holds where a name has a row
pub record Found (x : List ℕ) (es : List Entry) (i : ℕ) : Type 0 where
  pub within : i < length es
  pub there : is_some (lookup x (listed es)) ≡ true
  pub look : (d : Entry) → lookup x (listed es) ≡ Some (slice_index_or es i d).node
  pub put : (d : Entry) (n : Tree) → put_entry x n (listed es) ≡ listed (slice_set es i (with_node (slice_index_or es i d) n))
  pub cut : cut_entry x (listed es) ≡ listed (remove es i)

-- what holds where a name has none, and a row would stand at i
pub record Absent (x : List ℕ) (es : List Entry) (i : ℕ) : Type 0 where
  pub within : i ≤ length es
  pub look : lookup x (listed es) ≡ None
  pub put : (e : Entry) → e.name.items ≡ x → put_entry x e.node (listed es) ≡ listed (take i es ++ e ∷ drop i es)

-- the two, by the place
abbrev pub AtPlace : List ℕ → List Entry → Result ℕ ℕ → Type 0
AtPlace x es (Ok i) = Found x es i
AtPlace x es (Err i) = Absent x es i
