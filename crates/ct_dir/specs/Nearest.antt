-- The best slot so far, in a search for the least name of those later than a name.
use Rattle.std.specs.Prelude.{◌≡◌, ◌≢◌, ℕ, ◌<◌, Option, Some, None, List}
use Rattle.std.specs.declared.cmp.Ordering.TheVariants.{Less}
use Rattle.ct_base.specs.Objects.{Object}
use Rattle.ct_base.specs.Path.{name_cmp}
use Rattle.ct_base.specs.Slots.{IsSlot, slot_inode, slot_name}
use Rattle.ct_dir.specs.Directory.{IsLater}
use Rattle.ct_dir.specs.Keys.{IsKey}
use Rattle.ct_dir.specs.declared.order.Best.{Best}

-- the name comes before the other, or there is no other
abbrev pub IsBefore : Option (List ℕ) → List ℕ → Type 0
IsBefore None x = Unit {0}
IsBefore (Some best) x = name_cmp x best ≡ Less

-- the best has the key of the name, where there is one
abbrev pub AreBest : Option (List ℕ) → Option Best → Type 0
AreBest None None = Unit {0}
AreBest None (Some best) = ⊥
AreBest (Some x) None = ⊥
AreBest (Some x) (Some best) = IsKey x best.key

-- of the slots before an offset that are later than a name, this one has the least name
pub record IsLeast (f : Object) (after : Option (List ℕ)) (at : ℕ) (best : Best) : Type 0 where
  pub slot : IsSlot f best.found.offset
  pub inode : slot_inode f best.found.offset ≡ best.found.inode
  pub key : IsKey (slot_name f best.found.offset) best.key
  pub later : IsLater after (slot_name f best.found.offset)
  pub least : (k : ℕ) → k < at → IsSlot f k → IsLater after (slot_name f k) → name_cmp (slot_name f k) (slot_name f best.found.offset) ≢ Less

-- the best of the slots before an offset, where one of them is later than the name
abbrev pub IsBest : Object → Option (List ℕ) → ℕ → Option Best → Type 0
IsBest f after at None = (o : ℕ) → o < at → IsSlot f o → IsLater after (slot_name f o) → ⊥
IsBest f after at (Some best) = IsLeast f after at best
