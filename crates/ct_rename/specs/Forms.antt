-- The forms of a rename.
use Rattle.std.specs.Prelude.{◌≡◌, ◌≢◌, ℕ, true, false, List, [], ◌∷◌, Some, Err}
use Rattle.std.specs.Str.{bytes_eq}
use Rattle.ct_base.specs.declared.inode.Inode.{Inode}
use Rattle.ct_base.specs.Inode.{inode}
use Rattle.ct_base.specs.Path.{names_of}
use Rattle.ct_base.specs.View.{view}
use Rattle.ct_base.specs.declared.layout.TheConstants.{DIRECTORY_KIND}
use Rattle.ct_tree.specs.Checks.{at}
use Rattle.ct_tree.specs.Lands.{files}
use Rattle.ct_tree.specs.Tree.{Tree}
use Rattle.ct_tree.specs.declared.call.Refusal.{Refusal}
use Rattle.ct_find.specs.declared.kind.Kind.{Kind}
use Rattle.ct_find.specs.declared.kind.Kind.TheVariants.{File as file, Directory as directory}
use Rattle.ct_call.specs.Calls.{StandsFor}
use Rattle.ct_find.specs.Spots.{IsNewName}
use Rattle.ct_find.specs.Entries.{IsEntryAt, IsLeaf}
use Rattle.ct_rename.specs.declared.find.Form.{Form}
use Rattle.ct_rename.specs.declared.find.Form.TheVariants.{Same, New, Over}

-- two paths with these names, neither of which is /
pub record AreBelow (path to : List ℕ) (xs ys : List (List ℕ)) : Type 0 where
  pub first : names_of path ≡ Some xs
  pub second : names_of to ≡ Some ys
  pub some : path ≢ 47 ∷ []
  pub others : to ≢ 47 ∷ []

-- the kind of an object, a directory or none
abbrev pub IsKindOf : Inode → Kind → Type 0
IsKindOf f file = f.kind ≢ DIRECTORY_KIND
IsKindOf f directory = f.kind ≡ DIRECTORY_KIND

-- The paths are equal. Or they differ, the first leads to an entry, and the other to none, or to one whose object has no slots.
abbrev pub IsForm : List ℕ → List ℕ → List ℕ → Form → Type 0
IsForm img path to Same = bytes_eq path to ≡ true
IsForm img path to (New from spot) =
    (bytes_eq path to ≡ false) × IsEntryAt img path from × IsNewName img to spot.dir spot.inode spot.offset spot.name.now
    × ((t : Tree) → StandsFor img t → (r : Refusal) × (at t to ≡ Err r))
IsForm img path to (Over from there gone) =
    (bytes_eq path to ≡ false) × IsEntryAt img path from × IsEntryAt img to there
    × IsLeaf (files img) there.dir there.offset there.number × (gone ≡ inode (view img) there.number)
