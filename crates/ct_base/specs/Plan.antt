-- What a call takes of an image: the growth of one object, and the tables and pages that it asks for. All is read on the
-- image as it is when the call begins.
use Rattle.std.specs.Prelude.{ℕ, zero, suc, ◌+◌, ◌-◌, ◌*◌, ◌/◌, ◌%◌, ◌^◌, ◌==◌, ◌&&◌, ◌||◌, ◌++◌, nat_le, nat_lt, if◌then◌else◌, List, [], ◌∷◌, map, Option, Some, None}
use Rattle.ct_base.specs.declared.inode.Inode.{Inode}
use Rattle.ct_base.specs.Inode.{inode, Partition, part, part_bytes, nth, free_parts, live_parts}
use Rattle.ct_base.specs.Pieces.{pieces}
use Rattle.ct_base.specs.Published.{words_above}
use Rattle.ct_base.specs.View.{view, inode_count}
use Rattle.ct_base.specs.Wants.{Want, missing}
use Rattle.ct_base.specs.declared.layout.TheConstants.{ENTRY_BYTES, INODE_BYTES, NO_PARTITION, PAGE_BYTES, SLOT_SPAN, STAGING_SLOT, TOP_LEVEL}

-- the least of the levels from n on whose length is at least `end`, in so many steps
unfoldable pub level_from : ℕ → ℕ → ℕ → ℕ
level_from zero n end = n
level_from (suc steps) n end = if nat_le end (part_bytes n) then n else level_from steps (n + 1) end

abbrev pub level_for : ℕ → ℕ
level_for end = level_from TOP_LEVEL 0 end

-- the level to which an object grows that has to hold `end` bytes
abbrev pub grows_to : Inode → ℕ → Option ℕ
grows_to f end = if (f.level == NO_PARTITION) || nat_lt (part_bytes f.level) end then Some (level_for end) else None

-- the height of the pieces by which a partition of a level is exchanged whole
abbrev pub exchange_height : ℕ → ℕ
exchange_height level = level / 3

-- an address with its root slot replaced by the staging slot
abbrev pub stage : ℕ → ℕ
stage v = STAGING_SLOT * SLOT_SPAN + v % SLOT_SPAN

-- the table of a level on the path of an address, and the page at one
abbrev pub table_want : ℕ → ℕ → Want
table_want level v = record { height = level; at = v; len = 1 }

abbrev pub page_want : ℕ → Want
page_want v = record { height = 0; at = v; len = 1 }

-- the partition that growth takes: the first free one of the level
abbrev pub first_of : List Partition → Partition
first_of [] = nth 0 0
first_of (p ∷ ps) = p

abbrev pub next_part : (ℕ → ℕ) → ℕ → ℕ → Partition
next_part b count level = first_of (free_parts (live_parts b count) level)

-- a page at each header word on the path of a partition
abbrev pub header_wants : Partition → List Want
header_wants p = map page_want (words_above p.level (p.base / part_bytes p.level) (10 - p.level))

-- the two tables between which the whole of an old partition is exchanged
abbrev pub move_wants : Inode → ℕ → ℕ → List Want
move_wants f from to = table_want (exchange_height f.level + 1) from ∷ table_want (exchange_height f.level + 1) to ∷ []

abbrev pub growth_wants : Inode → Partition → List Want
growth_wants f new = header_wants new ++ (if f.level == NO_PARTITION then [] else move_wants f f.base new.base)

-- the pages that the growth of an object to a level takes
abbrev pub growth_need : List ℕ → Inode → ℕ → ℕ
growth_need img f level = missing img (growth_wants f (next_part (view img) (inode_count img) level))

-- Growth brings what the old partition has: a want in the new one counts where it comes from.
abbrev pub counted : Inode → Partition → Want → Want
counted f new want =
    if (nat_le f.level TOP_LEVEL && nat_le want.height (exchange_height f.level)) && (nat_le new.base want.at && nat_lt want.at (new.base + part_bytes f.level))
    then record want { at = want.at - new.base + f.base }
    else want

-- for each piece the table between whose entries it lies, on one side and on both
abbrev pub side_wants : ℕ → List (ℕ × ℕ) → List Want
side_wants a ps = map (λ piece. table_want (piece.1 + 1) ((a + piece.0) * PAGE_BYTES)) ps

abbrev pub both_wants : ℕ → ℕ → ℕ → List Want
both_wants a b n = side_wants a (pieces a b n) ++ side_wants b (pieces a b n)

-- the pages that a range of bytes touches: how many
abbrev pub touched : ℕ → ℕ → ℕ
touched off len = (off + len - 1) / PAGE_BYTES - off / PAGE_BYTES + 1

-- a write of len bytes, at least one: tables on the file's side, and a staged page for each page that it touches
abbrev pub write_wants : Inode → ℕ → ℕ → Partition → List Want
write_wants f off len new =
    map (counted f new) (side_wants ((new.base + off) / PAGE_BYTES) (pieces ((new.base + off) / PAGE_BYTES) (stage (new.base + off) / PAGE_BYTES) (touched off len)))
    ++ record { height = 0; at = stage (new.base + off) / PAGE_BYTES * PAGE_BYTES; len = touched off len * PAGE_BYTES } ∷ []

-- a cut to a length that is not 0: what lies past it is exchanged, and the page on the edge is staged
abbrev pub cut_wants : Inode → ℕ → List Want
cut_wants f len =
    both_wants (f.base / PAGE_BYTES + len / PAGE_BYTES) (stage f.base / PAGE_BYTES + len / PAGE_BYTES) (8 ^ f.level - len / PAGE_BYTES)
    ++ (if len % PAGE_BYTES == 0 then [] else page_want ((stage f.base / PAGE_BYTES + len / PAGE_BYTES) * PAGE_BYTES) ∷ [])

-- a partition that is given up whole; one of level 9 needs only the root
abbrev pub give_up_wants : Inode → List Want
give_up_wants f = if nat_le f.level 8 then move_wants f f.base (stage f.base) else []

pub record Plan : Type 0 where
  -- the level to which an object grows
  pub growth : Option ℕ
  pub wants : List Want

abbrev pub no_plan : Plan
no_plan = record { growth = None; wants = [] }

abbrev pub plan_of : List Want → Plan
plan_of wants = record { growth = None; wants = wants }

-- object f grows to a level or stays, and asks for more in the partition that it has then
abbrev pub grown : (ℕ → ℕ) → ℕ → Inode → Option ℕ → (Partition → List Want) → Plan
grown b count f None more = record { growth = None; wants = more (part f) }
grown b count f (Some level) more = record { growth = Some level; wants = growth_wants f (next_part b count level) ++ more (next_part b count level) }

abbrev pub write_plan : (ℕ → ℕ) → ℕ → Inode → ℕ → ℕ → Plan
write_plan b count f off len = if len == 0 then no_plan else grown b count f (grows_to f (off + len)) (write_wants f off len)

-- a truncation: longer, the same, to nothing, or shorter
abbrev pub truncate_plan : (ℕ → ℕ) → ℕ → Inode → ℕ → Plan
truncate_plan b count f len =
    if nat_lt f.size len then grown b count f (grows_to f len) (λ new. [])
    else (if len == f.size then no_plan else (if len == 0 then plan_of (give_up_wants f) else plan_of (cut_wants f len)))

-- a new entry at offset o of directory f, with more wants
abbrev pub entry_plan : (ℕ → ℕ) → ℕ → Inode → ℕ → List Want → Plan
entry_plan b count f o more =
    grown b count f (if nat_lt f.size (o + ENTRY_BYTES) then grows_to f (o + ENTRY_BYTES) else None) (λ new. counted f new (page_want (new.base + o)) ∷ more)

-- a new object with a number, and its entry
abbrev pub create_plan : (ℕ → ℕ) → ℕ → Inode → ℕ → ℕ → Plan
create_plan b count f o number = entry_plan b count f o (page_want (INODE_BYTES * number) ∷ [])

-- two ranges of pages change places
abbrev pub exchange_plan : Inode → ℕ → Inode → ℕ → ℕ → Plan
exchange_plan f off g other len = plan_of (both_wants ((f.base + off) / PAGE_BYTES) ((g.base + other) / PAGE_BYTES) (len / PAGE_BYTES))

-- the lowest number of a free inode from n on, in so many steps
unfoldable pub free_number : (ℕ → ℕ) → ℕ → ℕ → Option ℕ
free_number b n zero = None
free_number b n (suc steps) = if (inode b n).kind == 0 then Some n else free_number b (n + 1) steps

abbrev pub first_free_number : (ℕ → ℕ) → ℕ → Option ℕ
first_free_number b count = free_number b 1 count
