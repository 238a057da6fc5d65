-- Which check decides where more than one of a call's checks fails, by example.
use Rattle.std.specs.Prelude.{◌≡◌, ◌^◌, [], ◌∷◌, Some, codes}
use Rattle.ct_base.specs.declared.layout.TheConstants.{PAGE_BYTES}
use Rattle.ct_tree.specs.Tree.{Tree, File, Dir, none, entry}
use Rattle.ct_tree.specs.Step.{create, mkdir, write, read, truncate, unlink, rmdir, rename, exchange, list, locate, file_limit, refusal}
use Rattle.ct_tree.specs.declared.call.Refusal.TheVariants.{BadPath, NotFound, NotDir, IsDir, Exists, NotEmpty, IntoSelf, IsRoot, TooBig, BadRange, TooLong}

-- a directory d with an empty file g, and a file f of one byte
abbrev pub small_tree : Tree
small_tree = Dir (entry (codes "d") (Dir (entry (codes "g") (File []) none)) (entry (codes "f") (File (7 ∷ [])) none))

-- a bad path, then the root, then the way, then the name
abbrev pub MakesInOrder : Type 0
MakesInOrder =
    (refusal small_tree (create (codes "f")) ≡ Some BadPath) × (refusal small_tree (mkdir (codes "/")) ≡ Some Exists) × (refusal small_tree (create (codes "/x/y")) ≡ Some NotFound)
    × (refusal small_tree (mkdir (codes "/f/y")) ≡ Some NotDir) × (refusal small_tree (create (codes "/d")) ≡ Some Exists)

-- what the path leads to, and then the numbers
abbrev pub FilesInOrder : Type 0
FilesInOrder =
    (refusal small_tree (write (codes "/x") (2 ^ 40) []) ≡ Some NotFound) × (refusal small_tree (truncate (codes "/d") (2 ^ 40)) ≡ Some IsDir)
    × (refusal small_tree (write (codes "/f") file_limit (1 ∷ [])) ≡ Some TooBig) × (refusal small_tree (read (codes "/d") 0 (2 ^ 30)) ≡ Some IsDir)
    × (refusal small_tree (read (codes "/f") 0 (2 ^ 30)) ≡ Some TooLong) × (refusal small_tree (locate (codes "/d")) ≡ Some IsDir) × (refusal small_tree (list (codes "/f/y")) ≡ Some NotDir)

-- the root, then a directory, and then its entries
abbrev pub RemovesInOrder : Type 0
RemovesInOrder =
    (refusal small_tree (unlink (codes "/d")) ≡ Some IsDir) × (refusal small_tree (rmdir (codes "/")) ≡ Some IsRoot) × (refusal small_tree (rmdir (codes "/f")) ≡ Some NotDir)
    × (refusal small_tree (rmdir (codes "/d")) ≡ Some NotEmpty)

-- the paths, the root, what is moved, where it goes, below itself, and what is there
abbrev pub RenamesInOrder : Type 0
RenamesInOrder =
    (refusal small_tree (rename (codes "/") (codes "x")) ≡ Some BadPath) × (refusal small_tree (rename (codes "/x") (codes "/")) ≡ Some IsRoot)
    × (refusal small_tree (rename (codes "/x") (codes "/f/y")) ≡ Some NotFound) × (refusal small_tree (rename (codes "/d") (codes "/d/g/z")) ≡ Some NotDir)
    × (refusal small_tree (rename (codes "/d") (codes "/d/g")) ≡ Some IntoSelf) × (refusal small_tree (rename (codes "/f") (codes "/d")) ≡ Some IsDir)
    × (refusal small_tree (rename (codes "/d") (codes "/f")) ≡ Some NotDir)

-- both paths, then files, then the ranges, then whether these meet
abbrev pub ExchangesInOrder : Type 0
ExchangesInOrder =
    (refusal small_tree (exchange (codes "/x") 0 (codes "f") 0 0) ≡ Some BadPath) × (refusal small_tree (exchange (codes "/d") 1 (codes "/x") 0 PAGE_BYTES) ≡ Some NotFound)
    × (refusal small_tree (exchange (codes "/f") 1 (codes "/d") 0 PAGE_BYTES) ≡ Some IsDir) × (refusal small_tree (exchange (codes "/f") 0 (codes "/f") 0 PAGE_BYTES) ≡ Some BadRange)
