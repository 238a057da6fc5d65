-- What a search for a partition finds.
use Rattle.std.specs.Prelude.{◌≡◌, List, [], ◌∷◌, Option, Some, None}
use Rattle.ct_base.specs.Inode.{Partition}
use Rattle.ct_level.specs.declared.any.AnyPart.{AnyPart}
use Rattle.ct_level.specs.Any.{partition}

-- the first of the list, and nothing where the list is empty
abbrev pub IsFirstOf : List Partition → Option AnyPart → Type 0
IsFirstOf ps None = ps ≡ []
IsFirstOf ps (Some p) = (rest : List Partition) × (ps ≡ partition p ∷ rest)
