-- The script that makes a tree.
use Rattle.std.specs.Prelude.{ℕ, zero, suc, ◌+◌, ◌-◌, ◌/◌, ◌==◌, nat_le, Bool, if◌then◌else◌, List, [], ◌∷◌, ◌++◌, length, codes}
use Rattle.std.specs.Fmt.{decimal}
use Rattle.std.specs.List.{list_all, flat_map}
use Rattle.ct_base.specs.declared.layout.TheConstants.{PAGE_BYTES, PATH_BYTES}
use Rattle.hex.specs.Hex.{encode_lower}
use Rattle.ct_script.specs.Texts.{escaped, line_of}
use Rattle.ct_tree.specs.Content.{range}
use Rattle.ct_tree.specs.Tree.{Tree, File, Dir, Entries, none, entry}

-- a verb with the space after it, and the path with its names escaped
abbrev pub head : List ℕ → List ℕ → List ℕ
head verb path = verb ++ escaped path

-- a number after a space
abbrev pub number_text : ℕ → List ℕ
number_text n = 32 ∷ decimal n

abbrev pub create_line : List ℕ → List ℕ
create_line path = line_of (head (codes "create ") path)

abbrev pub mkdir_line : List ℕ → List ℕ
mkdir_line path = line_of (head (codes "mkdir ") path)

abbrev pub truncate_line : List ℕ → ℕ → List ℕ
truncate_line path size = head (codes "truncate ") path ++ line_of (number_text size)

abbrev pub write_line : List ℕ → ℕ → List ℕ → List ℕ
write_line path off bytes = head (codes "write ") path ++ (number_text off ++ 32 ∷ line_of (encode_lower bytes))

abbrev pub are_zeros : List ℕ → Bool
are_zeros bytes = list_all (λ b. b == 0) bytes

-- a file that is not empty is lengthened to its size
abbrev pub size_text : List ℕ → ℕ → List ℕ
size_text path size = if size == 0 then [] else truncate_line path size

-- bytes are written where one of them is not 0
abbrev pub page_text : List ℕ → ℕ → List ℕ → List ℕ
page_text path off bytes = if are_zeros bytes then [] else write_line path off bytes

-- so many pages of a file from an offset on
abbrev pub pages_text : List ℕ → List ℕ → ℕ → ℕ → List ℕ
pages_text path bytes zero off = []
pages_text path bytes (suc count) off = page_text path off (range bytes off PAGE_BYTES) ++ pages_text path bytes count (off + PAGE_BYTES)

-- how many pages hold so many bytes
abbrev pub page_count : ℕ → ℕ
page_count len = (len + (PAGE_BYTES - 1)) / PAGE_BYTES

abbrev pub file_text : List ℕ → List ℕ → List ℕ
file_text path bytes = create_line path ++ (size_text path (length bytes) ++ pages_text path bytes (page_count (length bytes)) 0)

-- a node, and the path that leads to it
pub record Placed : Type 0 where
  pub path : List ℕ
  pub node : Tree

-- the path of an entry; the root's own stands here as the empty text
abbrev pub path_below : List ℕ → List ℕ → List ℕ
path_below dir name = dir ++ 47 ∷ name

-- the nodes of a tree in the order of the dump, a directory before its entries
abbrev mutual
  pub placed : List ℕ → Tree → List Placed
  placed path (File bytes) = record { path = path; node = File bytes } ∷ []
  placed path (Dir es) = record { path = path; node = Dir es } ∷ placed_in path es

  pub placed_in : List ℕ → Entries → List Placed
  placed_in path none = []
  placed_in path (entry name node rest) = placed (path_below path name) node ++ placed_in path rest

-- all but the root, which is there already
abbrev pub placed_below : Tree → List Placed
placed_below (File bytes) = []
placed_below (Dir es) = placed_in [] es

-- the lines that make a node; a directory's entries have lines of their own
abbrev pub node_lines : List ℕ → Tree → List ℕ
node_lines path (File bytes) = file_text path bytes
node_lines path (Dir es) = mkdir_line path

abbrev pub lines_of : Placed → List ℕ
lines_of p = node_lines p.path p.node

abbrev pub text_of : List Placed → List ℕ
text_of nodes = flat_map lines_of nodes

-- the dump of a tree whose root is a directory
abbrev pub dumped : Tree → List ℕ
dumped t = text_of (placed_below t)

-- a path is short enough for a call
abbrev pub is_short : Placed → Bool
is_short p = nat_le (length p.path) PATH_BYTES

abbrev pub are_short : List Placed → Bool
are_short nodes = list_all is_short nodes

-- the nodes before the first whose path is too long
abbrev pub before_long : List Placed → List Placed
before_long [] = []
before_long (p ∷ ps) = if is_short p then p ∷ before_long ps else []

-- a node without what lies below it
abbrev pub alone : List ℕ → Tree → List Placed
alone path node = record { path = path; node = node } ∷ []
