-- A script: its lines, and the item of each.
use Rattle.std.specs.Prelude.{ℕ, List, [], ◌∷◌, Some, None}
use Rattle.std.specs.List.{flat_map}
use Rattle.std.specs.declared.option.Option.{Option}
use Rattle.ct_base.specs.Split.{parts_at}
use Rattle.ct_tree.specs.Runs.{Item, call, bad}
use Rattle.ct_tree.specs.Step.{Op}
use Rattle.ct_script.specs.Grammar.{chopped, call_of}

-- what stands between the bytes 10; the last may be empty
abbrev pub lines : List ℕ → List (List ℕ)
lines script = parts_at 10 script

abbrev pub item_of : Option Op → Item
item_of (Some op) = call op
item_of None = bad

-- a line has an item unless it is empty, a byte 13 at its end aside
abbrev pub items_at : List ℕ → Item → List Item
items_at [] item = []
items_at (x ∷ xs) item = item ∷ []

abbrev pub items_of : List ℕ → List Item
items_of line = items_at (chopped line) (item_of (call_of line))

-- the items of a script
abbrev pub items : List ℕ → List Item
items script = flat_map items_of (lines script)

abbrev pub all_but_last : List (List ℕ) → List (List ℕ)
all_but_last [] = []
all_but_last (x ∷ []) = []
all_but_last (x ∷ y ∷ ys) = x ∷ all_but_last (y ∷ ys)

-- the items of the lines that are ended by a byte 10
abbrev pub whole : List ℕ → List Item
whole script = flat_map items_of (all_but_last (lines script))
