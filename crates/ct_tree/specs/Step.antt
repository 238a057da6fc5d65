-- What each call replies, and the tree that it leaves.
use Rattle.std.specs.Prelude.{ℕ, ◌+◌, if◌then◌else◌, List, [], ◌∷◌, length, replicate, Ok, Err, Some, None}
use Rattle.std.specs.Str.{bytes_eq}
use Rattle.std.specs.declared.option.Option.{Option}
use Rattle.std.specs.declared.result.Result.{Result}
use Rattle.ct_base.specs.declared.layout.TheConstants.{NO_PARTITION}
use Rattle.ct_tree.specs.Tree.{Tree, File, Dir, Entries, none, entry}
use Rattle.ct_tree.specs.Resolve.{put, cut, node_in}
use Rattle.ct_tree.specs.Content.{bytes_in, range, resized, written}
use Rattle.ct_tree.specs.Checks.{first_of, names, at, parent_at, bad_path, is_root, no_node, no_file, no_dir, is_dir, exists, has_entries, above, into_self, in_the_way, bad_range, overlap}
use Rattle.ct_tree.specs.declared.checks.TheConstants.{EXCHANGE_BYTES, FILE_BYTES, READ_BYTES}
use Rattle.ct_tree.specs.declared.call.Call.{Call}
use Rattle.ct_tree.specs.declared.call.Call.TheVariants.{Create, Mkdir, Write, Fill, Append, Read, Truncate, Unlink, Rmdir, Rename, Exchange, Stat, List as ListNames, Where}
use Rattle.ct_tree.specs.declared.call.Refusal.{Refusal}
use Rattle.ct_tree.specs.declared.call.Refusal.TheVariants.{Exists, IsRoot, TooBig, TooLong}
use Rattle.ct_tree.specs.declared.call.Reply.{Reply}
use Rattle.ct_tree.specs.declared.call.Reply.TheVariants.{Done, Data, File as FileOf, Dir as DirOf, Names, At, Refused}

-- a call, by the bytes and numbers that it is given
pub data Op : Type 0 where
  create : List ℕ → Op
  mkdir : List ℕ → Op
  write : List ℕ → ℕ → List ℕ → Op
  fill : List ℕ → ℕ → ℕ → ℕ → Op
  append : List ℕ → List ℕ → Op
  read : List ℕ → ℕ → ℕ → Op
  truncate : List ℕ → ℕ → Op
  unlink : List ℕ → Op
  rmdir : List ℕ → Op
  rename : List ℕ → List ℕ → Op
  exchange : List ℕ → ℕ → List ℕ → ℕ → ℕ → Op
  stat : List ℕ → Op
  list : List ℕ → Op
  locate : List ℕ → Op

abbrev pub op_of : Call → Op
op_of (Create path) = create path.now
op_of (Mkdir path) = mkdir path.now
op_of (Write path off bytes) = write path.now off bytes.now
op_of (Fill path off len byte) = fill path.now off len byte
op_of (Append path bytes) = append path.now bytes.now
op_of (Read path off len) = read path.now off len
op_of (Truncate path len) = truncate path.now len
op_of (Unlink path) = unlink path.now
op_of (Rmdir path) = rmdir path.now
op_of (Rename path to) = rename path.now to.now
op_of (Exchange path off other other_off len) = exchange path.now off other.now other_off len
op_of (Stat path) = stat path.now
op_of (ListNames path) = list path.now
op_of (Where path) = locate path.now

-- the longest file, the longest read and the longest exchange, in bytes
abbrev pub file_limit : ℕ
file_limit = FILE_BYTES

abbrev pub read_limit : ℕ
read_limit = READ_BYTES

abbrev pub exchange_limit : ℕ
exchange_limit = EXCHANGE_BYTES

abbrev pub size_at : Tree → List ℕ → ℕ
size_at t path = length (bytes_in (at t path))

-- why nothing new can be made at a path
abbrev pub make_refusal : Tree → List ℕ → Option Refusal
make_refusal t path = first_of (bad_path path ∷ is_root path Exists ∷ no_dir (parent_at t path) ∷ exists t path ∷ [])

-- the first check that fails, in the order of the checks
abbrev pub refusal : Tree → Op → Option Refusal
refusal t (create path) = make_refusal t path
refusal t (mkdir path) = make_refusal t path
refusal t (write path off bytes) = first_of (bad_path path ∷ no_file (at t path) ∷ above (off + length bytes) file_limit TooBig ∷ [])
refusal t (fill path off len byte) = first_of (bad_path path ∷ no_file (at t path) ∷ above (off + len) file_limit TooBig ∷ [])
refusal t (append path bytes) = first_of (bad_path path ∷ no_file (at t path) ∷ above (size_at t path + length bytes) file_limit TooBig ∷ [])
refusal t (read path off len) = first_of (bad_path path ∷ no_file (at t path) ∷ above len read_limit TooLong ∷ [])
refusal t (truncate path len) = first_of (bad_path path ∷ no_file (at t path) ∷ above len file_limit TooBig ∷ [])
refusal t (unlink path) = first_of (bad_path path ∷ no_file (at t path) ∷ [])
refusal t (rmdir path) = first_of (bad_path path ∷ is_root path IsRoot ∷ no_dir (at t path) ∷ has_entries (at t path) ∷ [])
refusal t (rename path to) =
    first_of (
    bad_path path ∷ bad_path to ∷ is_root path IsRoot ∷ is_root to IsRoot ∷ no_node (at t path) ∷ no_dir (parent_at t to)
    ∷ into_self path to ∷ in_the_way t path to ∷ []
    )
refusal t (exchange path off other other_off len) =
    first_of (
    bad_path path ∷ bad_path other ∷ no_node (at t path) ∷ no_node (at t other) ∷ is_dir (at t path) ∷ is_dir (at t other)
    ∷ bad_range t path off other other_off len ∷ overlap path off other other_off len ∷ above len exchange_limit TooLong ∷ []
    )
refusal t (stat path) = first_of (bad_path path ∷ no_node (at t path) ∷ [])
refusal t (list path) = first_of (bad_path path ∷ no_dir (at t path) ∷ [])
refusal t (locate path) = first_of (bad_path path ∷ no_file (at t path) ∷ [])

-- how many entries there are, and their names in order
abbrev pub count : Entries → ℕ
count none = 0
count (entry name node rest) = 1 + count rest

abbrev pub names_in : Entries → List (List ℕ)
names_in none = []
names_in (entry name node rest) = name ∷ names_in rest

-- what is told of a node that was resolved
abbrev pub told : Result Tree Refusal → Reply
told (Err e) = Done
told (Ok (File bytes)) = FileOf (length bytes)
told (Ok (Dir es)) = DirOf (count es)

abbrev pub listed_in : Result Tree Refusal → List (List ℕ)
listed_in (Err e) = []
listed_in (Ok (File bytes)) = []
listed_in (Ok (Dir es)) = names_in es

-- the tree with this file, or this node, at a path
abbrev pub with_file : Tree → List ℕ → List ℕ → Tree
with_file t path bytes = put t (names path) (File bytes)

abbrev pub with_bytes : Tree → List ℕ → ℕ → List ℕ → Tree
with_bytes t path off bytes = with_file t path (written (bytes_in (at t path)) off bytes)

-- the node at a path has another, and what was there is gone
abbrev pub moved : Tree → List ℕ → List ℕ → Tree
moved t path to = if bytes_eq path to then t else put (cut t (names path)) (names to) (node_in (at t path))

-- two ranges have changed places
abbrev pub exchanged : Tree → List ℕ → ℕ → List ℕ → ℕ → ℕ → Tree
exchanged t path off other other_off len =
    with_bytes (with_bytes t path off (range (bytes_in (at t other)) other_off len)) other other_off (range (bytes_in (at t path)) off len)

-- what a call does that is not refused; a plain tree has no addresses, and tells none
abbrev pub effect : Tree → Op → Reply × Tree
effect t (create path) = (Done, with_file t path [])
effect t (mkdir path) = (Done, put t (names path) (Dir none))
effect t (write path off bytes) = (Done, with_bytes t path off bytes)
effect t (fill path off len byte) = (Done, with_bytes t path off (replicate len byte))
effect t (append path bytes) = (Done, with_bytes t path (size_at t path) bytes)
effect t (read path off len) = (Data (range (bytes_in (at t path)) off len), t)
effect t (truncate path len) = (Done, with_file t path (resized len (bytes_in (at t path))))
effect t (unlink path) = (Done, cut t (names path))
effect t (rmdir path) = (Done, cut t (names path))
effect t (rename path to) = (Done, moved t path to)
effect t (exchange path off other other_off len) = (Done, exchanged t path off other other_off len)
effect t (stat path) = (told (at t path), t)
effect t (list path) = (Names (listed_in (at t path)), t)
effect t (locate path) = (At 0 NO_PARTITION, t)

-- a refused call leaves the tree
abbrev pub answered : Option Refusal → Tree → Reply × Tree → Reply × Tree
answered None t done = done
answered (Some r) t done = (Refused r, t)

abbrev pub step : Tree → Op → Reply × Tree
step t op = answered (refusal t op) t (effect t op)
