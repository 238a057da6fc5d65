-- What a change of files leaves of directories.
use Rattle.std.specs.Prelude.{◌≡◌, ℕ, List}
use Rattle.ct_base.specs.declared.layout.TheConstants.{DIRECTORY_KIND}
use Rattle.ct_tree.specs.Lands.{files}

-- each directory is the same object as before, with all its entries in their slots
abbrev pub KeepsDirectories : List ℕ → List ℕ → Type 0
KeepsDirectories old new = (i : ℕ) → (files old i).kind ≡ DIRECTORY_KIND → files new i ≡ files old i
