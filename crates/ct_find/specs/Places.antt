-- What a path names in its directory: an entry, or a place for a new one.
use Rattle.std.specs.Prelude.{◌≡◌, ℕ, List, [], ◌∷◌, Err}
use Rattle.std.specs.declared.option.Option.{Option}
use Rattle.ct_tree.specs.Checks.{at, bad_path, first_of, no_dir, parent_at}
use Rattle.ct_tree.specs.Tree.{Tree}
use Rattle.ct_tree.specs.declared.call.Refusal.{Refusal}
use Rattle.ct_tree.specs.declared.call.Refusal.TheVariants.{NotFound}
use Rattle.ct_find.specs.Entries.{IsEntryAt, StandsAt}
use Rattle.ct_find.specs.Spots.{IsNewName}
use Rattle.ct_find.specs.declared.place.Place.{Place}
use Rattle.ct_find.specs.declared.place.Place.TheVariants.{Taken, Free}

-- why a path names nothing and can name nothing: it is none, or its parent is no directory
abbrev pub place_refusal : Tree → List ℕ → Option Refusal
place_refusal t path = first_of (bad_path path ∷ no_dir (parent_at t path) ∷ [])

-- the path names this entry, or may name a new one here
abbrev pub IsPlaceOf : List ℕ → List ℕ → Place → Type 0
IsPlaceOf img path (Taken entry) = IsEntryAt img path entry
IsPlaceOf img path (Free spot) = IsNewName img path spot.dir spot.inode spot.offset spot.name.now

-- in the tree the path leads to the node of the entry, or has no node by its last name
abbrev pub ShowsPlace : List ℕ → List ℕ → Tree → Place → Type 0
ShowsPlace img path t (Taken entry) = StandsAt img path t entry.number
ShowsPlace img path t (Free spot) = at t path ≡ Err NotFound
