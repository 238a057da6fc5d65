-- What growth gives an object, and room as a whole.
use Rattle.std.specs.Prelude.{◌≡◌, ℕ, ◌+◌, List, length, Option, Some, None}
use Rattle.ct_base.specs.Inode.{inode, part}
use Rattle.ct_base.specs.Plan.{growth_need, next_part}
use Rattle.ct_base.specs.View.{view, inode_count}
use Rattle.ct_frames.specs.Free.{FreePages}
use Rattle.ct_base.specs.Wants.{Want}
use Rattle.ct_grow.specs.Grown.{CellsMoved, Promoted}
use Rattle.ct_tree.specs.Lands.{files}
use Rattle.ct_walk.specs.Has.{HasAll}
use Rattle.ct_commit.specs.Rest.{IsAtRest}
use Rattle.ct_call.specs.Placed.{IsMoved}
use Rattle.ct_call.specs.Plans.{part_then}

-- the object has moved to the next partition of the level, and growth took the pages that it needs
pub record HasMoved (old new : List ℕ) (before after : FreePages) (dir level : ℕ) : Type 0 where
  pub promoted : Promoted old new dir (next_part (view old) (inode_count old) level)
  pub cells : CellsMoved old new (inode (view old) dir) (next_part (view old) (inode_count old) level)
  pub taken : length after.free + growth_need old (inode (view old) dir) level ≡ length before.free

-- the object has moved, or nothing changed
abbrev pub Gives : List ℕ → List ℕ → FreePages → FreePages → ℕ → Option ℕ → Type 0
Gives old new before after dir None = (new ≡ old) × (after ≡ before)
Gives old new before after dir (Some level) = HasMoved old new before after dir level

-- Object i has grown or stayed and has all that it asked for then, and every object is as it was.
pub record MakesRoom (old new : List ℕ) (i : ℕ) (growth : Option ℕ) (asked : List Want) : Type 0 where
  pub there : HasAll new asked
  pub part : part (inode (view new) i) ≡ part_then old (inode (view old) i) growth
  pub moved : (level : ℕ) → growth ≡ Some level → IsMoved (λ v. ⊥) old new i level
  pub files : files new ≡ files old
  pub counted : inode_count new ≡ inode_count old
  pub rest : IsAtRest new
