-- The few paths that drawn calls name.
use Rattle.std.specs.Prelude.{ℕ, List, [], ◌∷◌, codes}
use Rattle.std.specs.List.{Contains}
use Rattle.ct_tree.specs.Step.{Op, create, mkdir, write, fill, append, read, truncate, unlink, rmdir, rename, exchange, stat, list, locate}

-- three directories, six files in them, a name that no directory has at first, the root, and what is no path
abbrev pub few_paths : List (List ℕ)
few_paths =
    codes "/d" ∷ codes "/e" ∷ codes "/d/e" ∷ codes "/a" ∷ codes "/b" ∷ codes "/d/a" ∷ codes "/d/b" ∷ codes "/e/a"
    ∷ codes "/d/e/b" ∷ codes "/c" ∷ codes "/" ∷ codes "c" ∷ []

abbrev pub IsFew : List ℕ → Type 0
IsFew path = Contains few_paths path

-- each path of a call is one of the few
abbrev pub IsOverFew : Op → Type 0
IsOverFew (create path) = IsFew path
IsOverFew (mkdir path) = IsFew path
IsOverFew (write path off bytes) = IsFew path
IsOverFew (fill path off len byte) = IsFew path
IsOverFew (append path bytes) = IsFew path
IsOverFew (read path off len) = IsFew path
IsOverFew (truncate path len) = IsFew path
IsOverFew (unlink path) = IsFew path
IsOverFew (rmdir path) = IsFew path
IsOverFew (rename path to) = IsFew path × IsFew to
IsOverFew (exchange path off other other_off len) = IsFew path × IsFew other
IsOverFew (stat path) = IsFew path
IsOverFew (list path) = IsFew path
IsOverFew (locate path) = IsFew path
