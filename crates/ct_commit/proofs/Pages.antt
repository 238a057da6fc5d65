-- Pages that lie under live files, and words that lie on none.
use Rattle.std.proofs.Common.{◌≡◌, ◌≢◌, ℕ, ◌+◌, ◌*◌, ◌/◌, ◌%◌, ◌^◌, ◌<◌, ◌≤◌, List, sym, ◌∙◌, subst, inl, inr, arith}
use Rattle.std.proofs.Math.Nat.{div-add-mod, mul_assoc}
use Rattle.ct_base.specs.declared.inode.Inode.{Inode}
use Rattle.ct_base.specs.Free.{IsFilePage}
use Rattle.ct_base.specs.Inode.{inode, IsIn, number_of, part, part_bytes}
use Rattle.ct_base.specs.Rules.{placed, ArePlaced, HasRoom, Owns, Sound, part_of}
use Rattle.ct_base.specs.Settled.{settled}
use Rattle.ct_base.specs.View.{view, inode_count}
use Rattle.ct_base.specs.Walk.{page_at}
use Rattle.ct_base.specs.Words.{place_at}
use Rattle.ct_image.proofs.Steps.{page_at-low, page_at-root, walk-cell}
use Rattle.ct_parts.proofs.Lengths.{partition_bounds}
use Rattle.ct_parts.proofs.Lists.{base-is, part_partition}
use Rattle.ct_pm.specs.Device.{IsIn as IsWordIn}
use Rattle.ct_record.specs.Record.{InRecord, SettlesTo}
use Rattle.ct_state.specs.Alike.{Alike}
use Rattle.ct_state.proofs.Settle.{alike_off, cells_off}
use Rattle.ct_state.proofs.Shut.{alike_then, shut_alike, shut_pages}
use Rattle.ct_commit.specs.Closed.{IsClosed}
use Rattle.ct_commit.proofs.States.{off_record}

-- ---- partitions

placed_room : (img : List ℕ) {i : ℕ} → ArePlaced (view img) (inode_count img) → Owns (view img) (inode_count img) i → HasRoom (inode (view img) i)
placed_room img {i} rule owns = elim (rule i owns.live).place [ inl none ↦ absurd (omega (arith, none.level, owns.level)) | inr some ↦ some ]

pub room_of : (img : List ℕ) {i : ℕ} → Sound img → Owns (view img) (inode_count img) i → HasRoom (inode (view img) i)
room_of img sound owns = placed_room img (sound placed) owns

-- an address of a partition
pub high_in : {f : Inode} {v : ℕ} → HasRoom f → f.base ≤ v → v < f.base + part_bytes f.level → v < 2 ^ 48
high_in {f} {v} room from to =
    let b = partition_bounds f.level (number_of (part f)) (part_partition (part f) room.part) in
    omega (arith, b.1, base-is (part f) room.part, to)

-- partitions begin at pages
pub base_whole : {f : Inode} → HasRoom f → f.base % 4096 ≡ 0
base_whole {f} room =
    let parts = div-add-mod f.base (part_bytes f.level) in
    let factor : 4096 * 8 ^ f.level * (f.base / part_bytes f.level) ≡ 4096 * (8 ^ f.level * (f.base / part_bytes f.level)) = mul_assoc 4096 (8 ^ f.level) (f.base / part_bytes f.level) in
    omega (arith, parts, factor, room.part.aligned)

-- words that lie in the one page of an address
pub word_page : (img : List ℕ) (a n word : ℕ) → a % 8 ≡ 0 → a % 4096 + 8 * n ≤ 4096 → IsWordIn (place_at img a) n word → word / 512 ≡ page_at img 4 (a / 4096)
word_page img a n word aligned inside at = omega (arith, at.0, at.1)

-- ---- the pages of files

-- a file's page has a cell from root slot 10 on
pub record FilePage (img : List ℕ) (page : ℕ) : Type 0 where
  pub number : ℕ
  pub high : 10 * 2 ^ 27 ≤ number
  pub is : page_at img 4 number ≡ page

pub placed_cell : (img : List ℕ) {page : ℕ} → ArePlaced (view img) (inode_count img) → (is : IsFilePage img page) → page_at img 4 (is.address / 4096) ≡ page
placed_cell img rule is = sym (walk-cell img is.address (high_in (placed_room img rule is.owns) is.inside.from is.inside.to)) ∙ is.is

pub file_cell : (img : List ℕ) {page : ℕ} → Sound img → (is : IsFilePage img page) → page_at img 4 (is.address / 4096) ≡ page
file_cell img sound is = placed_cell img (sound placed) is

pub file_page : {img : List ℕ} {page : ℕ} → IsClosed img → IsFilePage img page → FilePage img page
file_page {img} c is =
    let room = placed_room img c.placed is.owns in
    record { number = is.address / 4096; high = omega (arith, room.part.low, is.inside.from); is = placed_cell img c.placed is }

-- a page of a live file of what an image settles to is one of the words that it settles to
pub settles_page : {w : List ℕ} (image : List ℕ) {page : ℕ} → IsClosed w → SettlesTo w image → IsFilePage (settled image) page → IsFilePage w page
settles_page {w} image c settles is =
    let off = off_record settles in
    let alike : Alike w (settled image) = alike_then (shut_alike c.shut c.whole) (alike_off off) in
    let owns : Owns (view w) (inode_count w) is.file = subst (λ b. Owns b (inode_count w) is.file) alike.bytes (subst (λ n. Owns (view (settled image)) n is.file) alike.inodes is.owns) in
    let inside : IsIn (part_of (view w) is.file) is.address = subst (λ b. IsIn (part_of b is.file) is.address) alike.bytes is.inside in
    let room = placed_room w c.placed owns in
    let high = high_in room inside.from inside.to in
    let low : 10 * 2 ^ 27 ≤ is.address / 4096 = omega (arith, room.part.low, inside.from) in
    record {
      file = is.file;
      address = is.address;
      owns = owns;
      kind = subst (λ b. (inode b is.file).kind ≡ 1) alike.bytes is.kind;
      inside = inside;
      is = walk-cell w is.address high ∙ sym (shut_pages c.shut c.whole (is.address / 4096) (inr low)) ∙ sym (cells_off off 4 (is.address / 4096)) ∙ sym (walk-cell (settled image) is.address high) ∙ is.is;
      some = is.some;
    }

-- ---- words on none of them

-- no record lies under a file
pub record_off : {w : List ℕ} (word : ℕ) → IsClosed w → InRecord word → IsFilePage w (word / 512) → ⊥
record_off {w} word c inside is =
    let cell = placed_cell w c.placed is in
    let low = page_at-low w 4 (is.address / 4096) (λ z. omega (arith, z, cell, inside.0)) in
    omega (arith, cell, low, inside.1)

-- and no root table
pub root_off : {w : List ℕ} (word : ℕ) → IsClosed w → word / 512 ≡ 33 → IsFilePage w (word / 512) → ⊥
root_off {w} word c at is =
    let root = page_at-root w in
    let cell = placed_cell w c.placed is in
    let same : page_at w 4 (is.address / 4096) ≡ page_at w 0 0 = omega (arith, cell, at, root) in
    let both = c.whole.tables.once 4 (is.address / 4096) 0 0 (omega arith) (omega arith) (λ z. omega (arith, same, root, z)) same in
    omega (arith, both.0)

-- a word that is on no page from a root slot on, as far as 10, is on no page of a file
pub spare_off : {w : List ℕ} (slot word : ℕ) → slot ≤ 10 → IsClosed w → ((q : ℕ) → slot * 2 ^ 27 ≤ q → page_at w 4 q ≢ word / 512) → IsFilePage w (word / 512) → ⊥
spare_off slot word le c spare is =
    let at = file_page c is in
    spare at.number (omega (arith, at.high, le)) at.is
