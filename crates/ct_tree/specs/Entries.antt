-- The entries of a directory, in byte order of their names.
use Rattle.std.specs.Prelude.{ℕ, ◌+◌, List, Ok, Err}
use Rattle.std.specs.Prelude.{Some, None}
use Rattle.std.specs.declared.option.Option.{Option}
use Rattle.std.specs.declared.result.Result.{Result}
use Rattle.std.specs.declared.cmp.Ordering.{Ordering}
use Rattle.std.specs.declared.cmp.Ordering.TheVariants.{Less, Equal, Greater}
pub use Rattle.ct_base.specs.Path.{name_cmp}
use Rattle.ct_tree.specs.Tree.{Tree, Entries, none, entry}

-- one of three, by how two names compare
abbrev pub by_order : {A : Type 0} → Ordering → A → A → A → A
by_order Less a b c = a
by_order Equal a b c = b
by_order Greater a b c = c

-- the node under a name
abbrev pub lookup : List ℕ → Entries → Option Tree
lookup x none = None
lookup x (entry y node rest) = by_order (name_cmp x y) None (Some node) (lookup x rest)

-- the entries with this node under the name, in place of what was there
abbrev pub put_entry : List ℕ → Tree → Entries → Entries
put_entry x n none = entry x n none
put_entry x n (entry y node rest) = by_order (name_cmp x y) (entry x n (entry y node rest)) (entry y n rest) (entry y node (put_entry x n rest))

-- the entries without the name
abbrev pub cut_entry : List ℕ → Entries → Entries
cut_entry x none = none
cut_entry x (entry y node rest) = by_order (name_cmp x y) (entry y node rest) rest (entry y node (cut_entry x rest))

-- a place that is k further on
abbrev pub later : ℕ → Result ℕ ℕ → Result ℕ ℕ
later k (Ok i) = Ok (k + i)
later k (Err i) = Err (k + i)

-- the number of the entry with the name, or the number that a new entry would have
abbrev pub place_of : List ℕ → Entries → Result ℕ ℕ
place_of x none = Err 0
place_of x (entry y node rest) = by_order (name_cmp x y) (Err 0) (Ok 0) (later 1 (place_of x rest))
