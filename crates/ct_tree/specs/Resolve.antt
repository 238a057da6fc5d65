-- What stands where a list of names leads, and the tree with something else there.
use Rattle.std.specs.Prelude.{ℕ, Bool, true, false, ◌&&◌, List, [], ◌∷◌, Ok, Err, unwrap_or, IsOkAnd}
use Rattle.std.specs.Option.{ok_or}
use Rattle.std.specs.Str.{bytes_eq}
use Rattle.std.specs.declared.result.Result.{Result}
use Rattle.ct_tree.specs.Tree.{Tree, File, Dir, Entries, none}
use Rattle.ct_tree.specs.Entries.{lookup, put_entry, cut_entry}
use Rattle.ct_tree.specs.declared.call.Refusal.{Refusal}
use Rattle.ct_tree.specs.declared.call.Refusal.TheVariants.{NotFound, NotDir}

-- the node that a name leads to from a node
abbrev pub child : Tree → List ℕ → Result Tree Refusal
child (File bytes) x = Err NotDir
child (Dir es) x = ok_or (lookup x es) NotFound

abbrev pub and_then : Result Tree Refusal → (Tree → Result Tree Refusal) → Result Tree Refusal
and_then (Ok t) f = f t
and_then (Err e) f = Err e

-- the node that the names lead to, one after another; the first name that leads nowhere decides
abbrev pub resolve : Tree → List (List ℕ) → Result Tree Refusal
resolve t [] = Ok t
resolve t (x ∷ xs) = and_then (child t x) (λ n. resolve n xs)

abbrev pub node_in : Result Tree Refusal → Tree
node_in (Err e) = Dir none
node_in (Ok n) = n

abbrev pub entries_in : Tree → Entries
entries_in (File bytes) = none
entries_in (Dir es) = es

-- the node under a name, an empty directory where there is none
abbrev pub under : Tree → List ℕ → Tree
under t x = unwrap_or (lookup x (entries_in t)) (Dir none)

-- the tree with this node where the names lead
abbrev pub put : Tree → List (List ℕ) → Tree → Tree
put t [] n = n
put t (x ∷ xs) n = Dir (put_entry x (put (under t x) xs n) (entries_in t))

-- the tree without what stands where the names lead
abbrev pub cut : Tree → List (List ℕ) → Tree
cut t [] = t
cut t (x ∷ []) = Dir (cut_entry x (entries_in t))
cut t (x ∷ y ∷ ys) = Dir (put_entry x (cut (under t x) (y ∷ ys)) (entries_in t))

-- all names but the last, and the last
abbrev pub parent : List (List ℕ) → List (List ℕ)
parent [] = []
parent (x ∷ []) = []
parent (x ∷ y ∷ ys) = x ∷ parent (y ∷ ys)

abbrev pub last_name : List (List ℕ) → List ℕ
last_name [] = []
last_name (x ∷ []) = x
last_name (x ∷ y ∷ ys) = last_name (y ∷ ys)

-- whether the second names begin with the first, and go on
abbrev pub lies_below : List (List ℕ) → List (List ℕ) → Bool
lies_below [] [] = false
lies_below [] (y ∷ ys) = true
lies_below (x ∷ xs) [] = false
lies_below (x ∷ xs) (y ∷ ys) = bytes_eq x y && lies_below xs ys

abbrev pub IsDir : Tree → Type 0
IsDir (File bytes) = ⊥
IsDir (Dir es) = Unit {0}

-- something may stand where the names lead: all but the last lead to a directory
abbrev pub HasParent : Tree → List (List ℕ) → Type 0
HasParent t [] = ⊥
HasParent t (x ∷ xs) = IsOkAnd (resolve t (parent (x ∷ xs))) IsDir

-- something stands where the names lead, below the root
abbrev pub IsBelowRoot : Tree → List (List ℕ) → Type 0
IsBelowRoot t [] = ⊥
IsBelowRoot t (x ∷ xs) = IsOkAnd (resolve t (x ∷ xs)) (λ n. Unit {0})
