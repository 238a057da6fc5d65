-- The trees that a dump makes again.
use Rattle.std.specs.Prelude.{◌≡◌, ℕ, ◌≤◌, Bool, true, nat_lt, List, length}
use Rattle.std.specs.List.{list_all}
use Rattle.ct_dump.specs.Dumped.{are_short, placed_below}
use Rattle.ct_tree.specs.Ordered.{IsTree}
use Rattle.ct_tree.specs.Resolve.{IsDir}
use Rattle.ct_tree.specs.Step.{file_limit}
use Rattle.ct_tree.specs.Tree.{Tree, File, Dir, Entries, none, entry}

-- each is a byte
abbrev pub are_bytes : List ℕ → Bool
are_bytes values = list_all (λ b. nat_lt b 256) values

abbrev mutual
  -- names and files are made of bytes
  pub HoldsBytes : Tree → Type 0
  HoldsBytes (File bytes) = are_bytes bytes ≡ true
  HoldsBytes (Dir es) = HoldBytes es

  pub HoldBytes : Entries → Type 0
  HoldBytes none = Unit {0}
  HoldBytes (entry name node rest) = (are_bytes name ≡ true) × HoldsBytes node × HoldBytes rest

abbrev mutual
  -- no file is longer than a call can make it
  pub IsWithinLimit : Tree → Type 0
  IsWithinLimit (File bytes) = length bytes ≤ file_limit
  IsWithinLimit (Dir es) = AreWithinLimit es

  pub AreWithinLimit : Entries → Type 0
  AreWithinLimit none = Unit {0}
  AreWithinLimit (entry name node rest) = IsWithinLimit node × AreWithinLimit rest

-- a directory with its entries in order, of bytes, with no path that is too long for a call
pub record IsDumpable (t : Tree) : Type 0 where
  pub dir : IsDir t
  pub tree : IsTree t
  pub bytes : HoldsBytes t
  pub short : are_short (placed_below t) ≡ true
