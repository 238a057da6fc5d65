-- The checks of the calls: each is the refusal where it fails, and none where it passes.
use Rattle.std.specs.Prelude.{◌≡◌, ℕ, ◌+◌, ◌%◌, Bool, true, false, not, ◌&&◌, ◌==◌, nat_lt, nat_le, if◌then◌else◌, List, [], ◌∷◌, length, Ok, Err, Some, None, is_some, is_none, unwrap_or}
use Rattle.std.specs.Str.{bytes_eq}
use Rattle.std.specs.declared.option.Option.{Option}
use Rattle.std.specs.declared.result.Result.{Result}
use Rattle.ct_base.specs.Path.{names_of}
use Rattle.ct_base.specs.declared.layout.TheConstants.{PAGE_BYTES}
use Rattle.ct_tree.specs.Tree.{Tree, File, Dir, none, entry}
use Rattle.ct_tree.specs.Entries.{lookup}
use Rattle.ct_tree.specs.Resolve.{resolve, parent, last_name, lies_below}
use Rattle.ct_tree.specs.Content.{bytes_in}
use Rattle.ct_tree.specs.declared.call.Refusal.{Refusal}
use Rattle.ct_tree.specs.declared.call.Refusal.TheVariants.{BadPath, NotDir, IsDir, Exists, NotEmpty, IntoSelf, BadRange, Overlap}

-- the first check that fails, where one does
abbrev pub first_of : List (Option Refusal) → Option Refusal
first_of [] = None
first_of (Some r ∷ checks) = Some r
first_of (None ∷ checks) = first_of checks

abbrev pub refuse_if : Bool → Refusal → Option Refusal
refuse_if fails r = if fails then Some r else None

-- the names of a path; none are kept of a text that is no path
abbrev pub names : List ℕ → List (List ℕ)
names path = unwrap_or (names_of path) []

-- what a path leads to, and what it leads to without its last name
abbrev pub at : Tree → List ℕ → Result Tree Refusal
at t path = resolve t (names path)

abbrev pub parent_at : Tree → List ℕ → Result Tree Refusal
parent_at t path = resolve t (parent (names path))

abbrev pub bad_path : List ℕ → Option Refusal
bad_path path = refuse_if (is_none (names_of path)) BadPath

abbrev pub has_none : List (List ℕ) → Bool
has_none [] = true
has_none (x ∷ xs) = false

-- the path is /
abbrev pub is_root : List ℕ → Refusal → Option Refusal
is_root path r = refuse_if (has_none (names path)) r

-- the path leads nowhere
abbrev pub no_node : Result Tree Refusal → Option Refusal
no_node (Err e) = Some e
no_node (Ok n) = None

-- nowhere, or to no file
abbrev pub no_file : Result Tree Refusal → Option Refusal
no_file (Err e) = Some e
no_file (Ok (File bytes)) = None
no_file (Ok (Dir es)) = Some IsDir

-- nowhere, or to no directory
abbrev pub no_dir : Result Tree Refusal → Option Refusal
no_dir (Err e) = Some e
no_dir (Ok (File bytes)) = Some NotDir
no_dir (Ok (Dir es)) = None

abbrev pub is_dir : Result Tree Refusal → Option Refusal
is_dir (Err e) = None
is_dir (Ok (File bytes)) = None
is_dir (Ok (Dir es)) = Some IsDir

-- the name is there already
abbrev pub exists_in : Result Tree Refusal → List ℕ → Option Refusal
exists_in (Err e) x = None
exists_in (Ok (File bytes)) x = None
exists_in (Ok (Dir es)) x = refuse_if (is_some (lookup x es)) Exists

abbrev pub exists : Tree → List ℕ → Option Refusal
exists t path = exists_in (parent_at t path) (last_name (names path))

abbrev pub has_entries : Result Tree Refusal → Option Refusal
has_entries (Err e) = None
has_entries (Ok (File bytes)) = None
has_entries (Ok (Dir none)) = None
has_entries (Ok (Dir (entry name node rest))) = Some NotEmpty

-- a number is over its limit
abbrev pub above : ℕ → ℕ → Refusal → Option Refusal
above n limit r = refuse_if (not (nat_le n limit)) r

-- a path is moved below itself
abbrev pub into_self : List ℕ → List ℕ → Option Refusal
into_self path to = refuse_if (lies_below (names path) (names to)) IntoSelf

-- what is moved cannot take the place of what is there
abbrev pub unlike : Result Tree Refusal → Result Tree Refusal → Option Refusal
unlike (Ok (File bytes)) (Ok (Dir es)) = Some IsDir
unlike (Ok (Dir es)) (Ok (File bytes)) = Some NotDir
unlike (Ok (Dir es)) (Ok (Dir fs)) = has_entries (Ok (Dir fs))
unlike (Ok (File bytes)) (Ok (File other)) = None
unlike (Err e) there = None
unlike (Ok n) (Err e) = None

-- unless it is itself
abbrev pub in_the_way : Tree → List ℕ → List ℕ → Option Refusal
in_the_way t path to = if bytes_eq path to then None else unlike (at t path) (at t to)

-- the numbers are multiples of a page, and both ranges end within their files
abbrev pub are_ranges : List ℕ → ℕ → List ℕ → ℕ → ℕ → Bool
are_ranges bytes off other other_off len =
    (off % PAGE_BYTES == 0) && (other_off % PAGE_BYTES == 0) && (len % PAGE_BYTES == 0) && nat_le (off + len) (length bytes) && nat_le (other_off + len) (length other)

abbrev pub bad_range : Tree → List ℕ → ℕ → List ℕ → ℕ → ℕ → Option Refusal
bad_range t path off other other_off len =
    refuse_if (not (are_ranges (bytes_in (at t path)) off (bytes_in (at t other)) other_off len)) BadRange

-- two ranges of one file share a byte
abbrev pub overlap : List ℕ → ℕ → List ℕ → ℕ → ℕ → Option Refusal
overlap path off other other_off len =
    refuse_if (bytes_eq path other && nat_lt off (other_off + len) && nat_lt other_off (off + len)) Overlap

-- a check that was made
abbrev pub Passes : {T : Type 0} → Result T Refusal → Option Refusal → Type 0
Passes (Ok done) check = check ≡ None
Passes (Err r) check = check ≡ Some r
