-- What a crash leaves is judged by the state to which it settles.
use Rattle.std.specs.Prelude.{◌≡◌, ◌↔◌, ℕ, List}
use Rattle.ct_base.specs.Head.{HeadRule, HeadHolds}
use Rattle.ct_base.specs.Rules.{Rule, HoldsAt}
use Rattle.ct_base.specs.Settled.{settled}
use Rattle.ct_base.specs.View.{view, inode_count}

-- The two images settle to one state: the same bytes, as many inodes, and of the rules the same that fail.
pub record SameState (f g : List ℕ) : Type 0 where
  pub bytes : view (settled g) ≡ view (settled f)
  pub inodes : inode_count (settled g) ≡ inode_count (settled f)
  pub head : (r : HeadRule) → HeadHolds f r ↔ HeadHolds g r
  pub rules : (r : Rule) → HoldsAt (settled f) r ↔ HoldsAt (settled g) r
