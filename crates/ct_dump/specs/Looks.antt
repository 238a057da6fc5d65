-- What is seen of a tree, one look at a time.
use Rattle.std.specs.Prelude.{◌≡◌, ℕ, List, true, length, Ok, Err, Some, None, is_some, IsOkAnd}
use Rattle.std.specs.declared.option.Option.{Option}
use Rattle.std.specs.declared.result.Result.{Result}
use Rattle.ct_base.specs.Path.{names_of}
use Rattle.ct_tree.specs.Tree.{Tree, File, Dir, Entries, none, entry}
use Rattle.ct_tree.specs.Entries.{name_cmp, by_order}
use Rattle.ct_tree.specs.Resolve.{entries_in, node_in}
use Rattle.ct_tree.specs.Checks.{at}
use Rattle.ct_tree.specs.declared.call.Refusal.{Refusal}

-- the text is a path, and leads to a node of which the fact holds
abbrev pub LeadsTo : Tree → List ℕ → (Tree → Type 0) → Type 0
LeadsTo t path Holds = (is_some (names_of path) ≡ true) × IsOkAnd (at t path) Holds

abbrev pub IsNode : Tree → Type 0
IsNode n = Unit {0}

abbrev pub IsFile : Tree → Type 0
IsFile (File bytes) = Unit {0}
IsFile (Dir es) = ⊥

-- the size of a file, and none for a directory
abbrev pub size_of : Result Tree Refusal → Option ℕ
size_of (Err e) = None
size_of (Ok (File bytes)) = Some (length bytes)
size_of (Ok (Dir es)) = None

-- the entries of the directory at a path
abbrev pub entries_at : Tree → List ℕ → Entries
entries_at t path = entries_in (node_in (at t path))

-- the entries whose names are greater
abbrev pub entries_above : List ℕ → Entries → Entries
entries_above after none = none
entries_above after (entry name node rest) = by_order (name_cmp after name) (entry name node rest) rest (entries_above after rest)

-- the entries after a name, or all
abbrev pub entries_after : Option (List ℕ) → Entries → Entries
entries_after None es = es
entries_after (Some after) es = entries_above after es

abbrev pub first_name : Entries → Option (List ℕ)
first_name none = None
first_name (entry name node rest) = Some name

-- the least name greater than another, or the least of all
abbrev pub least_after : Option (List ℕ) → Entries → Option (List ℕ)
least_after after es = first_name (entries_after after es)
