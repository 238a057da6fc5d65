-- A tree as it has to be: names that are names, in byte order, and files that are not too long.
use Rattle.std.specs.Prelude.{◌≡◌, ℕ, ◌≤◌, List, length, true}
use Rattle.std.specs.declared.cmp.Ordering.TheVariants.{Less}
use Rattle.ct_tree.specs.Tree.{Tree, File, Dir, Entries, none, entry}
use Rattle.ct_tree.specs.Entries.{name_cmp}
use Rattle.ct_tree.specs.Step.{file_limit}
use Rattle.ct_base.specs.Path.{is_name}

-- the name is before each name of the entries
abbrev pub IsBelow : List ℕ → Entries → Type 0
IsBelow y none = Unit {0}
IsBelow y (entry z node rest) = (name_cmp y z ≡ Less) × IsBelow y rest

abbrev mutual
  pub IsTree : Tree → Type 0
  IsTree (File bytes) = length bytes ≤ file_limit
  IsTree (Dir es) = AreEntries es

  pub AreEntries : Entries → Type 0
  AreEntries none = Unit {0}
  AreEntries (entry name node rest) = (is_name name ≡ true) × IsTree node × IsBelow name rest × AreEntries rest
