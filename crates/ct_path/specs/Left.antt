-- The names of a path that are still to come.
use Rattle.std.specs.Prelude.{◌≡◌, ℕ, List, [], Some, None, true}
use Rattle.std.specs.Borrow.{Bor}
use Rattle.std.specs.List.{list_all}
use Rattle.std.specs.declared.option.Option.{Option}
use Rattle.ct_base.specs.Path.{is_name, parts}

-- the names of the text that is left, where some is left
abbrev pub names_left : Option (Bor (List ℕ)) → List (List ℕ)
names_left None = []
names_left (Some text) = parts text.now

-- each of them is a name
abbrev pub AreNames : List (List ℕ) → Type 0
AreNames names = list_all is_name names ≡ true
