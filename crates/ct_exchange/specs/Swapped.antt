-- What an image has after an exchange.
use Rattle.std.specs.Prelude.{◌≡◌, ◌⊎◌, ℕ, ◌+◌, ◌*◌, ◌/◌, ◌<◌, ◌≤◌, List}
use Rattle.ct_base.specs.Exchange.{partner}
use Rattle.ct_base.specs.Inode.{inode}
use Rattle.ct_base.specs.Objects.{Object, objects}
use Rattle.ct_base.specs.View.{view, inode_count}
use Rattle.ct_base.specs.Walk.{page_at, walk}
use Rattle.ct_base.specs.declared.layout.TheConstants.{ADDRESS_END, PAGE_BYTES, PARTITION_SLOT, SLOT_SPAN}
use Rattle.ct_tree.specs.Lands.{files}
use Rattle.ct_tree.specs.Need.{IsAt}
use Rattle.ct_commit.specs.Landing.{LandsAs}
use Rattle.ct_exchange.specs.Ranges.{first_page, second_page}
use Rattle.ct_exchange.specs.declared.plan.Ranges.{Ranges}

-- the bytes by address, once those of the two ranges have changed places
abbrev pub bytes_after : List ℕ → Ranges → ℕ → ℕ
bytes_after img r v = view img (partner ((inode (view img) r.first).base + r.off) ((inode (view img) r.second).base + r.other_off) r.len v)

-- and what the inodes stand for then
abbrev pub files_after : List ℕ → Ranges → ℕ → Object
files_after img r = objects (bytes_after img r) (inode_count img)

-- the ranges have changed places, or not yet
abbrev pub SwapsOrNot : List ℕ → Ranges → List ℕ → Type 0
SwapsOrNot img r image = LandsAs (files img) image ⊎ LandsAs (files_after img r) image

-- the pages of the two ranges have changed places, and no other
abbrev pub HasSwapped : List ℕ → List ℕ → Ranges → Type 0
HasSwapped old new r = (p : ℕ) → page_at new 4 p ≡ page_at old 4 (partner (first_page old r) (second_page old r) (r.len / PAGE_BYTES) p)

-- The walks in root slots 10 to 511 are those before, but that those of the two ranges have changed places: the files are where
-- the paths lead.
abbrev pub SwapsWalks : List ℕ → List ℕ → List ℕ → ℕ → List ℕ → ℕ → ℕ → Type 0
SwapsWalks old new path off other other_off len =
    (i j : ℕ) → IsAt old path i → IsAt old other j → (v : ℕ) → PARTITION_SLOT * SLOT_SPAN ≤ v → v < ADDRESS_END
    → walk new v ≡ walk old (partner ((inode (view old) i).base + off) ((inode (view old) j).base + other_off) len v)
