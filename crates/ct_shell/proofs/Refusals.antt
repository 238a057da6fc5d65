-- A check of the tree never refuses for space.
use Rattle.std.proofs.Common.{ℕ, Bool, true, false, List, [], ◌∷◌, Option, Some, None, Result, Ok, Err, length, subst, inl, inr}
use Rattle.std.specs.Prelude.{◌+◌, ◌&&◌, if◌then◌else◌, is_none, is_some, nat_le, nat_lt, not}
use Rattle.std.specs.Option.{ok_or}
use Rattle.std.specs.Str.{bytes_eq}
use Rattle.ct_base.specs.Path.{names_of}
use Rattle.ct_call.specs.Answers.{IsRefused}
use Rattle.ct_tree.specs.Checks.{above, are_ranges, at, bad_path, bad_range, exists, exists_in, first_of, has_entries, has_none, in_the_way, into_self, is_dir, is_root, names, no_dir, no_file, no_node, overlap, parent_at, refuse_if, unlike}
use Rattle.ct_tree.specs.Content.{bytes_in}
use Rattle.ct_tree.specs.Entries.{lookup}
use Rattle.ct_tree.specs.Resolve.{and_then, child, last_name, lies_below, parent, resolve}
use Rattle.ct_tree.specs.Step.{Op, create, mkdir, write, fill, append, read, truncate, unlink, rmdir, rename, exchange, stat, list, locate, exchange_limit, file_limit, read_limit, refusal, size_at}
use Rattle.ct_tree.specs.Tree.{Tree, File, Dir, none, entry}
use Rattle.ct_tree.specs.declared.call.Refusal.{Refusal}
use Rattle.ct_tree.specs.declared.call.Refusal.TheVariants.{BadPath, NotFound, NotDir, IsDir, Exists, NotEmpty, IntoSelf, IsRoot, TooBig, BadRange, Overlap, TooLong, NoInode, NoPartition, NoPages}
use Rattle.ct_shell.specs.Binds.{BindsRefusal, IsSpace}

-- no refusal, or one that is not for space
abbrev Plain : Option Refusal → Type 0
Plain None = Unit {0}
Plain (Some r) = IsSpace r → ⊥

-- the same of where a path leads
abbrev PlainNode : Result Tree Refusal → Type 0
PlainNode (Ok n) = Unit {0}
PlainNode (Err r) = IsSpace r → ⊥

first : (o : Option Refusal) (os : List (Option Refusal)) → Plain o → Plain (first_of os) → Plain (first_of (o ∷ os))
first None os here rest = rest
first (Some r) os here rest = here

tested : (b : Bool) (r : Refusal) → (IsSpace r → ⊥) → Plain (refuse_if b r)
tested true r plain = plain
tested false r plain = tt

found : (o : Option Tree) → PlainNode (ok_or o NotFound)
found None = λ space. space
found (Some n) = tt

child_plain : (t : Tree) (x : List ℕ) → PlainNode (child t x)
child_plain (File bytes) x = λ space. space
child_plain (Dir es) x = found (lookup x es)

then_plain : (n : Result Tree Refusal) (f : Tree → Result Tree Refusal) → PlainNode n → ((t : Tree) → PlainNode (f t)) → PlainNode (and_then n f)
then_plain (Ok n) f here more = more n
then_plain (Err r) f here more = here

resolve_plain : (xs : List (List ℕ)) (t : Tree) → PlainNode (resolve t xs)
resolve_plain [] t = tt
resolve_plain (x ∷ xs) t = then_plain (child t x) (λ n. resolve n xs) (child_plain t x) (resolve_plain xs)

node_plain : (n : Result Tree Refusal) → PlainNode n → Plain (no_node n)
node_plain (Ok n) here = tt
node_plain (Err r) here = here

file_plain : (n : Result Tree Refusal) → PlainNode n → Plain (no_file n)
file_plain (Ok (File bytes)) here = tt
file_plain (Ok (Dir es)) here = λ space. space
file_plain (Err r) here = here

dir_plain : (n : Result Tree Refusal) → PlainNode n → Plain (no_dir n)
dir_plain (Ok (File bytes)) here = λ space. space
dir_plain (Ok (Dir es)) here = tt
dir_plain (Err r) here = here

is_dir_plain : (n : Result Tree Refusal) → Plain (is_dir n)
is_dir_plain (Ok (File bytes)) = tt
is_dir_plain (Ok (Dir es)) = λ space. space
is_dir_plain (Err r) = tt

exists_plain : (n : Result Tree Refusal) (x : List ℕ) → Plain (exists_in n x)
exists_plain (Ok (File bytes)) x = tt
exists_plain (Ok (Dir es)) x = tested (is_some (lookup x es)) Exists (λ space. space)
exists_plain (Err r) x = tt

entries_plain : (n : Result Tree Refusal) → Plain (has_entries n)
entries_plain (Ok (File bytes)) = tt
entries_plain (Ok (Dir none)) = tt
entries_plain (Ok (Dir (entry name node rest))) = λ space. space
entries_plain (Err r) = tt

unlike_plain : (n there : Result Tree Refusal) → Plain (unlike n there)
unlike_plain (Ok (File bytes)) (Ok (Dir es)) = λ space. space
unlike_plain (Ok (Dir es)) (Ok (File bytes)) = λ space. space
unlike_plain (Ok (Dir es)) (Ok (Dir fs)) = entries_plain (Ok (Dir fs))
unlike_plain (Ok (File bytes)) (Ok (File other)) = tt
unlike_plain (Err e) there = tt
unlike_plain (Ok (File bytes)) (Err e) = tt
unlike_plain (Ok (Dir es)) (Err e) = tt

way_plain : (b : Bool) (o : Option Refusal) → Plain o → Plain (if b then None else o)
way_plain true o plain = tt
way_plain false o plain = plain

path_plain : (path : List ℕ) → Plain (bad_path path)
path_plain path = tested (is_none (names_of path)) BadPath (λ space. space)

root_plain : (path : List ℕ) (r : Refusal) → (IsSpace r → ⊥) → Plain (is_root path r)
root_plain path r plain = tested (has_none (names path)) r plain

-- each of the checks
abbrev Each : List (Option Refusal) → Type 0
Each [] = Unit {0}
Each (o ∷ os) = Plain o × Each os

each_plain : (os : List (Option Refusal)) → Each os → Plain (first_of os)
each_plain [] each = tt
each_plain (o ∷ os) each = first o os each.0 (each_plain os each.1)

make_plain : (t : Tree) (path : List ℕ) → Plain (first_of (bad_path path ∷ is_root path Exists ∷ no_dir (parent_at t path) ∷ exists t path ∷ []))
make_plain t path =
    each_plain (bad_path path ∷ is_root path Exists ∷ no_dir (parent_at t path) ∷ exists t path ∷ [])
    (path_plain path, (root_plain path Exists (λ space. space), (dir_plain (parent_at t path) (resolve_plain (parent (names path)) t), (exists_plain (parent_at t path) (last_name (names path)), tt))))

-- a path that leads to a file, and one test more
sized_plain : (t : Tree) (path : List ℕ) (b : Bool) (r : Refusal) → (IsSpace r → ⊥) → Plain (first_of (bad_path path ∷ no_file (at t path) ∷ refuse_if b r ∷ []))
sized_plain t path b r plain = first _ _ (path_plain path) (first _ _ (file_plain (at t path) (resolve_plain (names path) t)) (first _ _ (tested b r plain) tt))

looks_plain : (t : Tree) (path : List ℕ) (o : Option Refusal) → Plain o → Plain (first_of (bad_path path ∷ o ∷ []))
looks_plain t path o plain = first _ _ (path_plain path) (first _ _ plain tt)

rmdir_plain : (t : Tree) (path : List ℕ) → Plain (first_of (bad_path path ∷ is_root path IsRoot ∷ no_dir (at t path) ∷ has_entries (at t path) ∷ []))
rmdir_plain t path =
    each_plain (bad_path path ∷ is_root path IsRoot ∷ no_dir (at t path) ∷ has_entries (at t path) ∷ [])
    (path_plain path, (root_plain path IsRoot (λ space. space), (dir_plain (at t path) (resolve_plain (names path) t), (entries_plain (at t path), tt))))

rename_plain : (t : Tree) (path to : List ℕ)
    → Plain (first_of (bad_path path ∷ bad_path to ∷ is_root path IsRoot ∷ is_root to IsRoot ∷ no_node (at t path) ∷ no_dir (parent_at t to) ∷ into_self path to ∷ in_the_way t path to ∷ []))
rename_plain t path to =
    each_plain (bad_path path ∷ bad_path to ∷ is_root path IsRoot ∷ is_root to IsRoot ∷ no_node (at t path) ∷ no_dir (parent_at t to) ∷ into_self path to ∷ in_the_way t path to ∷ []) (
      path_plain path,
      (
        path_plain to,
        (
          root_plain path IsRoot (λ space. space),
          (
            root_plain to IsRoot (λ space. space),
            (
              node_plain (at t path) (resolve_plain (names path) t),
              (
                dir_plain (parent_at t to) (resolve_plain (parent (names to)) t),
                (tested (lies_below (names path) (names to)) IntoSelf (λ space. space), (way_plain (bytes_eq path to) (unlike (at t path) (at t to)) (unlike_plain (at t path) (at t to)), tt)),
              ),
            ),
          ),
        ),
      ),
    )

exchange_plain : (t : Tree) (path : List ℕ) (off : ℕ) (other : List ℕ) (other_off len : ℕ)
    → Plain
    (first_of (
    bad_path path ∷ bad_path other ∷ no_node (at t path) ∷ no_node (at t other) ∷ is_dir (at t path) ∷ is_dir (at t other)
    ∷ bad_range t path off other other_off len ∷ overlap path off other other_off len ∷ above len exchange_limit TooLong ∷ []
    ))
exchange_plain t path off other other_off len =
    each_plain
    (
    bad_path path ∷ bad_path other ∷ no_node (at t path) ∷ no_node (at t other) ∷ is_dir (at t path) ∷ is_dir (at t other)
    ∷ bad_range t path off other other_off len ∷ overlap path off other other_off len ∷ above len exchange_limit TooLong ∷ []
    ) (
      path_plain path,
      (
        path_plain other,
        (
          node_plain (at t path) (resolve_plain (names path) t),
          (
            node_plain (at t other) (resolve_plain (names other) t),
            (
              is_dir_plain (at t path),
              (
                is_dir_plain (at t other),
                (
                  tested (not (are_ranges (bytes_in (at t path)) off (bytes_in (at t other)) other_off len)) BadRange (λ space. space),
                  (
                    tested (bytes_eq path other && nat_lt off (other_off + len) && nat_lt other_off (off + len)) Overlap (λ space. space),
                    (tested (not (nat_le len exchange_limit)) TooLong (λ space. space), tt),
                  ),
                ),
              ),
            ),
          ),
        ),
      ),
    )

checks_plain : (t : Tree) (op : Op) → Plain (refusal t op)
checks_plain t (create path) = make_plain t path
checks_plain t (mkdir path) = make_plain t path
checks_plain t (write path off bytes) = sized_plain t path (not (nat_le (off + length bytes) file_limit)) TooBig (λ space. space)
checks_plain t (fill path off len byte) = sized_plain t path (not (nat_le (off + len) file_limit)) TooBig (λ space. space)
checks_plain t (append path bytes) = sized_plain t path (not (nat_le (size_at t path + length bytes) file_limit)) TooBig (λ space. space)
checks_plain t (read path off len) = sized_plain t path (not (nat_le len read_limit)) TooLong (λ space. space)
checks_plain t (truncate path len) = sized_plain t path (not (nat_le len file_limit)) TooBig (λ space. space)
checks_plain t (unlink path) = looks_plain t path (no_file (at t path)) (file_plain (at t path) (resolve_plain (names path) t))
checks_plain t (rmdir path) = rmdir_plain t path
checks_plain t (rename path to) = rename_plain t path to
checks_plain t (exchange path off other other_off len) = exchange_plain t path off other other_off len
checks_plain t (stat path) = looks_plain t path (no_node (at t path)) (node_plain (at t path) (resolve_plain (names path) t))
checks_plain t (list path) = looks_plain t path (no_dir (at t path)) (dir_plain (at t path) (resolve_plain (names path) t))
checks_plain t (locate path) = looks_plain t path (no_file (at t path)) (file_plain (at t path) (resolve_plain (names path) t))

-- so a refusal is the one or the other, by what it is
pub binds_refusal : (words : List ℕ) (t : Tree) (op : Op) (r : Refusal) → IsRefused words t op r → BindsRefusal words t op r
binds_refusal words t op NoInode (inl is) = absurd (subst Plain is (checks_plain t op) tt)
binds_refusal words t op NoInode (inr space) = space
binds_refusal words t op (NoPartition level) (inl is) = absurd (subst Plain is (checks_plain t op) tt)
binds_refusal words t op (NoPartition level) (inr space) = space
binds_refusal words t op (NoPages free need) (inl is) = absurd (subst Plain is (checks_plain t op) tt)
binds_refusal words t op (NoPages free need) (inr space) = space
binds_refusal words t op BadPath (inl is) = is
binds_refusal words t op BadPath (inr space) = absurd space.1
binds_refusal words t op NotFound (inl is) = is
binds_refusal words t op NotFound (inr space) = absurd space.1
binds_refusal words t op NotDir (inl is) = is
binds_refusal words t op NotDir (inr space) = absurd space.1
binds_refusal words t op IsDir (inl is) = is
binds_refusal words t op IsDir (inr space) = absurd space.1
binds_refusal words t op Exists (inl is) = is
binds_refusal words t op Exists (inr space) = absurd space.1
binds_refusal words t op NotEmpty (inl is) = is
binds_refusal words t op NotEmpty (inr space) = absurd space.1
binds_refusal words t op IntoSelf (inl is) = is
binds_refusal words t op IntoSelf (inr space) = absurd space.1
binds_refusal words t op IsRoot (inl is) = is
binds_refusal words t op IsRoot (inr space) = absurd space.1
binds_refusal words t op TooBig (inl is) = is
binds_refusal words t op TooBig (inr space) = absurd space.1
binds_refusal words t op BadRange (inl is) = is
binds_refusal words t op BadRange (inr space) = absurd space.1
binds_refusal words t op Overlap (inl is) = is
binds_refusal words t op Overlap (inr space) = absurd space.1
binds_refusal words t op TooLong (inl is) = is
binds_refusal words t op TooLong (inr space) = absurd space.1
