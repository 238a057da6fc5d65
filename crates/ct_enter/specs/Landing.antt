-- Where a crash lands while an entry comes.
use Rattle.std.specs.Prelude.{◌⊎◌, ℕ, List}
use Rattle.ct_base.specs.Named.{Leads}
use Rattle.ct_base.specs.Objects.{Object}
use Rattle.ct_tree.specs.Ordered.{IsTree}
use Rattle.ct_tree.specs.Stands.{Stands}
use Rattle.ct_tree.specs.Tree.{Tree}
use Rattle.ct_enter.specs.Entry.{with_node}
use Rattle.ct_commit.specs.Landing.{LandsAs}

-- it has others then: a tree for which these stood has an empty object more, under a name of directory dir
pub record LandsWith (fs : ℕ → Object) (dir : ℕ) (name : List ℕ) (kind : ℕ) (image : List ℕ) : Type 0 where
  pub after : ℕ → Object
  pub lands : LandsAs after image
  pub node : (xs : List (List ℕ)) (t : Tree) → IsTree t → Stands fs 1 t → Leads fs 1 xs dir → Stands after 1 (with_node t xs name kind)

-- the entry is there, or not yet
abbrev pub EntersOrNot : (ℕ → Object) → ℕ → List ℕ → ℕ → List ℕ → Type 0
EntersOrNot fs dir name kind image = LandsAs fs image ⊎ LandsWith fs dir name kind image
