-- The device words of a directory's slots.
use Rattle.std.proofs.Common.{◌≡◌, ◌≢◌, ℕ, zero, suc, ◌+◌, ◌*◌, ◌/◌, ◌%◌, ◌^◌, ◌<◌, ◌≤◌, true, List, length, refl, sym, ap, ◌∙◌, subst, inl, inr, arith}
use Rattle.std.proofs.lemmas.Bool.{cases_Bool, cases_lt, lt-ltb, le-leb, or_right, and_from}
use Rattle.ct_base.specs.declared.inode.Inode.{Inode}
use Rattle.ct_base.specs.Inode.{little, part_bytes}
use Rattle.ct_base.specs.Rules.{IsPlaced, HasRoom}
use Rattle.ct_base.specs.Slots.{IsSlot}
use Rattle.ct_base.specs.View.{is_seen, view}
use Rattle.ct_base.specs.Walk.{word, word_in, page_at, byte_in, walk, AreTables}
use Rattle.ct_state.proofs.Bytes.{little-same, little-zero, little-none, content-at, content-past}
use Rattle.ct_state.proofs.Words.{little-word}
use Rattle.ct_walk.proofs.Entries.{entries_stand, page_there}
use Rattle.ct_dir.specs.Directory.{dir_of}

-- where a partition of a level begins and ends
pub part_bounds : (level base : ℕ) → level ≤ 9 → base % (4096 * 8 ^ level) ≡ 0 → base < 2 ^ 48 → (base % 4096 ≡ 0) × (base + 4096 * 8 ^ level ≤ 2 ^ 48) × (4096 * 8 ^ level ≤ 2 ^ 39)
part_bounds zero base le aligned high = (omega arith, omega arith, omega arith)
part_bounds (suc zero) base le aligned high = (omega arith, omega arith, omega arith)
part_bounds (suc (suc zero)) base le aligned high = (omega arith, omega arith, omega arith)
part_bounds (suc (suc (suc zero))) base le aligned high = (omega arith, omega arith, omega arith)
part_bounds (suc (suc (suc (suc zero)))) base le aligned high = (omega arith, omega arith, omega arith)
part_bounds (suc (suc (suc (suc (suc zero))))) base le aligned high = (omega arith, omega arith, omega arith)
part_bounds (suc (suc (suc (suc (suc (suc zero)))))) base le aligned high = (omega arith, omega arith, omega arith)
part_bounds (suc (suc (suc (suc (suc (suc (suc zero))))))) base le aligned high = (omega arith, omega arith, omega arith)
part_bounds (suc (suc (suc (suc (suc (suc (suc (suc zero)))))))) base le aligned high = (omega arith, omega arith, omega arith)
part_bounds (suc (suc (suc (suc (suc (suc (suc (suc (suc zero))))))))) base le aligned high = (omega arith, omega arith, omega arith)
part_bounds (suc (suc (suc (suc (suc (suc (suc (suc (suc (suc k)))))))))) base le aligned high = absurd (omega arith)

-- A directory with bytes has a partition.
pub record IsLaid (dir : Inode) : Type 0 where
  pub low : 10 * 2 ^ 39 ≤ dir.base
  pub aligned : dir.base % 4096 ≡ 0
  pub high : dir.base + dir.size ≤ 2 ^ 48
  pub size : dir.size ≤ 2 ^ 39

pub laid_room : {dir : Inode} → HasRoom dir → IsLaid dir
laid_room {dir} room =
    let b = part_bounds dir.level dir.base room.part.level room.part.aligned room.part.high in
    record { low = room.part.low; aligned = b.0; high = omega (arith, b.1, room.size); size = omega (arith, b.2, room.size) }

pub room_there : {dir : Inode} → IsPlaced dir → 0 < dir.size → HasRoom dir
room_there {dir} placed some = elim placed.place [
  | inl none ↦ absurd (omega (arith, none.size, some))
  | inr room ↦ room
]

pub laid : {dir : Inode} → IsPlaced dir → 0 < dir.size → IsLaid dir
laid placed some = laid_room (room_there placed some)

-- A slot of a directory on an image whose words fit.
pub record Lies (img : List ℕ) (dir : Inode) (o : ℕ) : Type 0 where
  pub tables : AreTables img
  pub fits : (w : ℕ) → word img w < 2 ^ 64
  pub laid : IsLaid dir
  pub below : o + 256 ≤ dir.size
  pub aligned : o % 256 ≡ 0

word_in-fits : (img : List ℕ) (page o : ℕ) → ((w : ℕ) → word img w < 2 ^ 64) → word_in img page o < 2 ^ 64
word_in-fits img zero o fits = omega arith
word_in-fits img (suc page) o fits = fits _

word_in-there : (img : List ℕ) (page o : ℕ) → page ≢ 0 → word_in img page o ≡ word img (page * 512 + o)
word_in-there img zero o ne = absurd (ne refl)
word_in-there img (suc page) o ne = refl

pub seen-high : (v : ℕ) → 5497558138880 ≤ v → v < 281474976710656 → is_seen v ≡ true
seen-high v low high = or_right _ _ (and_from _ _ (le-leb 5497558138880 v low) (lt-ltb v 281474976710656 high))

module _ {img : List ℕ} {dir : Inode} {o : ℕ} (s : Lies img dir o) where
  -- word k of the slot
  word_is : (k : ℕ) → k < 32 → little (dir_of img dir).at (o + 8 * k) 8 ≡ word_in img (page_at img 4 ((dir.base + o) / 4096)) (o % 4096 / 8 + k)
  word_is k lt =
      let l = s.laid in
      let v = dir.base + (o + 8 * k) in
      let at : v / 4096 ≡ (dir.base + o) / 4096 = omega (arith, l.aligned, s.aligned, lt) in
      let index : v % 4096 / 8 ≡ o % 4096 / 8 + k = omega (arith, l.aligned, s.aligned, lt) in
      little-same (view img) (dir_of img dir).at v (o + 8 * k) 8 (λ i below. content-at (view img) dir.base dir.size (o + 8 * k + i) (omega (arith, s.below, lt, below)) ∙ ap (view img) (omega arith))
      ∙ little-word img v (omega (arith, l.aligned, s.aligned)) (omega (arith, l.high, s.below, lt)) (λ i below. seen-high (v + i) (omega (arith, l.low)) (omega (arith, l.high, s.below, lt, below))) (word_in-fits img _ _ s.fits)
      ∙ ap (λ n. word_in img (page_at img 4 n) (v % 4096 / 8)) at ∙ ap (word_in img (page_at img 4 ((dir.base + o) / 4096))) index

  pub word_there : (k : ℕ) → k < 32 → page_at img 4 ((dir.base + o) / 4096) ≢ 0 → word img (page_at img 4 ((dir.base + o) / 4096) * 512 + o % 4096 / 8 + k) ≡ little (dir_of img dir).at (o + 8 * k) 8
  word_there k lt ne = ap (word img) (omega arith) ∙ sym (word_in-there img _ (o % 4096 / 8 + k) ne) ∙ sym (word_is k lt)

  pub slot_inside : page_at img 4 ((dir.base + o) / 4096) ≢ 0 → page_at img 4 ((dir.base + o) / 4096) * 512 + o % 4096 / 8 + 32 ≤ length img
  slot_inside ne = omega (arith, page_there img 4 ((dir.base + o) / 4096) (entries_stand s.tables) ne, s.aligned)

  -- without a page all of its bytes are 0
  pub absent : page_at img 4 ((dir.base + o) / 4096) ≡ 0 → little (dir_of img dir).at o 256 ≡ 0
  absent none =
      little-zero (dir_of img dir).at o 256 (λ k lt.
      ap (dir_of img dir).at (omega arith)
      ∙ little-none (dir_of img dir).at (o + 8 * (k / 8)) 8 (k % 8) (word_is (k / 8) (omega arith) ∙ ap (λ p. word_in img p (o % 4096 / 8 + k / 8)) none) (omega arith))

byte_in-small : (img : List ℕ) (page o : ℕ) → byte_in img page o < 256
byte_in-small img zero o = omega arith
byte_in-small img (suc page) o = omega arith

-- the bytes of a directory are bytes
view-small : (img : List ℕ) (v : ℕ) → view img v < 256
unfolding view
view-small img v = elim (cases_Bool (is_seen v)) [
  | inl t ↦ rw t (byte_in-small img (walk img v) (v % 4096))
  | inr f ↦ rw f (omega arith)
]

pub dir-small : (img : List ℕ) (dir : Inode) (k : ℕ) → (dir_of img dir).at k < 256
dir-small img dir k = elim (cases_lt k dir.size) [
  | inl lt ↦ subst (λ x. x < 256) (sym (content-at (view img) dir.base dir.size k lt)) (view-small img (dir.base + k))
  | inr ge ↦ subst (λ x. x < 256) (sym (content-past (view img) dir.base dir.size k (omega arith))) (omega arith)
]

-- a partition lies in one root slot
part_root : (level base o : ℕ) → level ≤ 9 → base % (4096 * 8 ^ level) ≡ 0 → o < 4096 * 8 ^ level → (base + o) / 2 ^ 39 ≡ base / 2 ^ 39
part_root zero base o le aligned lt = omega arith
part_root (suc zero) base o le aligned lt = omega arith
part_root (suc (suc zero)) base o le aligned lt = omega arith
part_root (suc (suc (suc zero))) base o le aligned lt = omega arith
part_root (suc (suc (suc (suc zero)))) base o le aligned lt = omega arith
part_root (suc (suc (suc (suc (suc zero))))) base o le aligned lt = omega arith
part_root (suc (suc (suc (suc (suc (suc zero)))))) base o le aligned lt = omega arith
part_root (suc (suc (suc (suc (suc (suc (suc zero))))))) base o le aligned lt = omega arith
part_root (suc (suc (suc (suc (suc (suc (suc (suc zero)))))))) base o le aligned lt = omega arith
part_root (suc (suc (suc (suc (suc (suc (suc (suc (suc zero))))))))) base o le aligned lt = omega arith
part_root (suc (suc (suc (suc (suc (suc (suc (suc (suc (suc k)))))))))) base o le aligned lt = absurd (omega arith)

-- and so do its slots
pub slot_root : {dir : Inode} (o : ℕ) → HasRoom dir → o < part_bytes dir.level → (dir.base + o) / 2 ^ 39 ≡ dir.base / 2 ^ 39
slot_root {dir} o room lt = part_root dir.level dir.base o room.part.level room.part.aligned lt

pub slot_high : {dir : Inode} (o : ℕ) → HasRoom dir → o < part_bytes dir.level → dir.base + o < 2 ^ 48
slot_high {dir} o room lt = omega (arith, (part_bounds dir.level dir.base room.part.level room.part.aligned room.part.high).1, lt)

-- a slot that is used has a page
pub used_there : (img : List ℕ) (dir : Inode) (o : ℕ) → AreTables img → ((w : ℕ) → word img w < 2 ^ 64) → IsPlaced dir → IsSlot (dir_of img dir) o → page_at img 4 ((dir.base + o) / 4096) ≢ 0
used_there img dir o tables fits placed s none =
    let whole = placed.slots s.dir in
    let l : Lies img dir o = record { tables = tables; fits = fits; laid = laid placed (omega (arith, s.below)); below = omega (arith, s.below, s.aligned, whole); aligned = s.aligned } in
    s.used (absent l none)
