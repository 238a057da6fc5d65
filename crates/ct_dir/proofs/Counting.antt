-- The entries of a directory and its first empty slot, past slots that are known.
use Rattle.std.proofs.Common.{◌≡◌, ◌≢◌, ℕ, zero, suc, ◌+◌, ◌-◌, ◌*◌, ◌/◌, ◌%◌, ◌<◌, ◌≤◌, ◌⊎◌, List, length, refl, sym, ap, subst, ◌∙◌, inl, inr, arith}
use Rattle.std.proofs.lemmas.Bool.{cases_eq, cases_lt, eq-eqb, ne_eqb}
use Rattle.ct_base.specs.Inode.{little}
use Rattle.ct_base.specs.Objects.{Object}
use Rattle.ct_base.specs.Slots.{IsSlot, entries, entries_from, free_slot, free_slot_from}
use Rattle.ct_base.specs.declared.inode.Inode.{Inode}
use Rattle.ct_dir.proofs.Stepping.{Brings}
use Rattle.ct_dir.specs.Directory.{AreEmpty, IsReadable, dir_of}
use Rattle.ct_dir.specs.declared.slot.Slot.{Slot}

-- a directory of whole slots
pub record IsWhole (f : Object) : Type 0 where
  pub kind : f.kind ≡ 2
  pub size : f.size % 256 ≡ 0

-- a slot that is no used one is 0
pub empty_zero : (f : Object) (o : ℕ) → IsWhole f → o % 256 ≡ 0 → o < f.size → (IsSlot f o → ⊥) → little f.at o 256 ≡ 0
empty_zero f o w aligned below none = elim (cases_eq (little f.at o 256) 0) [
  | inl is ↦ is
  | inr ne ↦ absurd (none (record { dir = w.kind; below = below; aligned = aligned; used = ne }))
]

entries_none : (f : Object) (o n : ℕ) → little f.at o 256 ≡ 0 → entries_from f o (suc n) ≡ entries_from f (o + 256) n
unfolding entries_from
entries_none f o n none = rw (eq-eqb _ _ none) refl

-- entries past empty slots
pub entries_skip : (f : Object) (m o n : ℕ) → IsWhole f → o % 256 ≡ 0 → o + 256 * (m + n) ≤ f.size → AreEmpty f o (o + 256 * m) → entries_from f o (m + n) ≡ entries_from f (o + 256 * m) n
entries_skip f zero o n w aligned fits empty = ap (λ k. entries_from f o k) (omega arith) ∙ ap (λ k. entries_from f k n) (omega arith)
entries_skip f (suc m) o n w aligned fits empty =
    let none : little f.at o 256 ≡ 0 = empty_zero f o w aligned (omega (arith, fits)) (empty o (omega arith) (omega arith)) in
    ap (λ k. entries_from f o k) (omega arith) ∙ entries_none f o (m + n) none
    ∙ entries_skip f m (o + 256) n w (omega (arith, aligned)) (omega (arith, fits)) (λ k low high. empty k (omega (arith, low)) (omega (arith, high)))
    ∙ ap (λ k. entries_from f k n) (omega arith)

entries_used : (f : Object) (o n : ℕ) → little f.at o 256 ≢ 0 → length (entries_from f o (suc n)) ≡ suc (length (entries_from f (o + 256) n))
unfolding entries_from
entries_used f o n some = rw (ne_eqb _ _ some) refl

entries_nil : (f : Object) (o : ℕ) → length (entries_from f o 0) ≡ 0
unfolding entries_from
entries_nil f o = refl

-- the entries from a slot on to the end
abbrev pub count_from : Object → ℕ → ℕ
count_from f o = length (entries_from f o ((f.size - o) / 256))

pub count_step : (f : Object) (at o : ℕ) → IsWhole f → at % 256 ≡ 0 → at ≤ o → AreEmpty f at o → IsSlot f o → count_from f at ≡ suc (count_from f (o + 256))
count_step f at o w aligned le empty s =
    let size = w.size in
    let below = s.below in
    let here = s.aligned in
    let m = (o - at) / 256 in
    let n = (f.size - (o + 256)) / 256 in
    let end : at + 256 * m ≡ o = omega arith in
    let all : (f.size - at) / 256 ≡ m + suc n = omega arith in
    ap (λ k. length (entries_from f at k)) all
    ∙ ap length (entries_skip f m at (suc n) w aligned (omega arith) (λ k low high. empty k low (omega (arith, high, end))))
    ∙ ap (λ k. length (entries_from f k (suc n))) end ∙ entries_used f o n s.used

pub count_end : (f : Object) (at : ℕ) → IsWhole f → at % 256 ≡ 0 → AreEmpty f at f.size → count_from f at ≡ 0
count_end f at w aligned empty =
    let size = w.size in
    let m = (f.size - at) / 256 in
    ap (λ k. length (entries_from f at k)) (omega arith) ∙ here m (omega arith) ∙ entries_nil f (at + 256 * m)
  where
    here : (m : ℕ) → 256 * m ≤ f.size - at → length (entries_from f at (m + 0)) ≡ length (entries_from f (at + 256 * m) 0)
    here zero le = ap (λ k. length (entries_from f at k)) (omega arith) ∙ entries_nil f at ∙ sym (entries_nil f (at + 256 * 0))
    here (suc m) le = ap length (entries_skip f (suc m) at 0 w aligned (omega arith) (λ k low high. empty k low (omega (arith, high, le))))

free_none : (f : Object) (o n : ℕ) → little f.at o 256 ≡ 0 → free_slot_from f o (suc n) ≡ o
unfolding free_slot_from
free_none f o n none = rw (eq-eqb _ _ none) refl

free_some : (f : Object) (o n : ℕ) → little f.at o 256 ≢ 0 → free_slot_from f o (suc n) ≡ free_slot_from f (o + 256) n
unfolding free_slot_from
free_some f o n some = rw (ne_eqb _ _ some) refl

free_nil : (f : Object) (o : ℕ) → free_slot_from f o 0 ≡ o
unfolding free_slot_from
free_nil f o = refl

-- the first empty slot from a slot on
abbrev pub free_from : Object → ℕ → ℕ
free_from f o = free_slot_from f o ((f.size - o) / 256)

pub free_step : (f : Object) (o : ℕ) → IsWhole f → IsSlot f o → free_from f o ≡ free_from f (o + 256)
free_step f o w s =
    let size = w.size in
    let below = s.below in
    let here = s.aligned in
    ap (free_slot_from f o) (omega arith) ∙ free_some f o ((f.size - (o + 256)) / 256) s.used

pub free_here : (f : Object) (o : ℕ) → IsWhole f → o % 256 ≡ 0 → o < f.size → (IsSlot f o → ⊥) → free_from f o ≡ o
free_here f o w aligned below none =
    let size = w.size in
    ap (free_slot_from f o) (omega arith) ∙ free_none f o ((f.size - (o + 256)) / 256) (empty_zero f o w aligned below none)

pub free_end : (f : Object) (o : ℕ) → IsWhole f → o % 256 ≡ 0 → o ≤ f.size → AreEmpty f o f.size → free_from f o ≡ o
free_end f o w aligned le empty = elim (cases_lt o f.size) [
  | inl lt ↦ free_here f o w aligned lt (empty o (omega arith) lt)
  | inr ge ↦ ap (free_slot_from f o) (omega arith) ∙ free_nil f o
]

-- a directory that can be read has whole slots
pub whole_dir : (img : List ℕ) (dir : Inode) → IsReadable img dir → IsWhole (dir_of img dir)
whole_dir img dir readable = record { kind = readable.kind; size = readable.placed.slots readable.kind }

-- the next slot ends within the directory
pub ends_below : {img : List ℕ} {dir : Inode} {at after : ℕ} {slot : Slot} → IsReadable img dir → Brings img dir at after slot → after ≤ dir.size
ends_below readable b = omega (arith, b.to, b.used.below, b.used.aligned, readable.placed.slots readable.kind)

pub counted_more : {img : List ℕ} {dir : Inode} {at after : ℕ} {slot : Slot} (count : ℕ) → IsReadable img dir → Brings img dir at after slot → at % 256 ≡ 0
    → count + count_from (dir_of img dir) at ≡ count_from (dir_of img dir) 0 → count + 1 + count_from (dir_of img dir) after ≡ count_from (dir_of img dir) 0
counted_more {img} {dir} {at} {after} {slot} count readable b aligned so_far =
    let one = count_step (dir_of img dir) at slot.offset (whole_dir img dir readable) aligned b.from b.passed b.used in
    let to : count_from (dir_of img dir) after ≡ count_from (dir_of img dir) (slot.offset + 256) = ap (count_from (dir_of img dir)) b.to in
    omega (arith, one, to, so_far)

-- the walk met the slot that was looked for
pub free_more : {img : List ℕ} {dir : Inode} {at after : ℕ} {slot : Slot} → IsReadable img dir → Brings img dir at after slot → slot.offset ≡ at
    → free_from (dir_of img dir) at ≡ free_from (dir_of img dir) 0 → free_from (dir_of img dir) after ≡ free_from (dir_of img dir) 0
free_more {img} {dir} {at} {after} {slot} readable b here so_far =
    let f = dir_of img dir in
    let S : ℕ → Type 0 = λ o. IsSlot f o in
    ap (free_from f) (b.to ∙ ap (λ o. o + 256) here) ∙ sym (free_step f at (whole_dir img dir readable) (subst S here b.used)) ∙ so_far

-- the walk met a later one
pub free_found : {img : List ℕ} {dir : Inode} {at after : ℕ} {slot : Slot} → IsReadable img dir → Brings img dir at after slot → slot.offset ≢ at → at % 256 ≡ 0
    → free_from (dir_of img dir) at ≡ free_from (dir_of img dir) 0 → at ≡ free_from (dir_of img dir) 0
free_found {img} {dir} {at} {after} {slot} readable b other aligned so_far =
    sym (free_here (dir_of img dir) at (whole_dir img dir readable) aligned (omega (arith, b.from, other, b.used.below)) (b.passed at (omega arith) (omega (arith, b.from, other)))) ∙ so_far

pub count_all : (f : Object) → count_from f 0 ≡ length (entries f)
count_all f = ap (λ k. length (entries_from f 0 (k / 256))) (omega arith)

pub free_all : (f : Object) → free_from f 0 ≡ free_slot f
free_all f = ap (λ k. free_slot_from f 0 (k / 256)) (omega arith)

-- the first empty slot of those before an offset, or the offset where all of them are used
abbrev pub IsFirstFree : Object → ℕ → ℕ → Type 0
IsFirstFree f at free = ((free ≡ at) × (free_from f at ≡ free_from f 0)) ⊎ ((free < at) × (free ≡ free_from f 0))

-- past a slot that the walk met
pub first_more : {img : List ℕ} {dir : Inode} {at after : ℕ} {slot : Slot} (free next : ℕ) → IsReadable img dir → Brings img dir at after slot → at % 256 ≡ 0
    → (slot.offset ≡ free → next ≡ free + 256) → (slot.offset ≢ free → next ≡ free) → IsFirstFree (dir_of img dir) at free → IsFirstFree (dir_of img dir) after next
first_more {img} {dir} {at} {after} {slot} free next readable b aligned met other (inl here) = elim (cases_eq slot.offset at) [
  | inl is ↦ inl (omega (arith, met (is ∙ sym here.0), here.0, is, b.to), free_more readable b is here.1)
  | inr ne ↦
      let stays : next ≡ free = other (λ is. ne (is ∙ here.0)) in
      inr (omega (arith, stays, here.0, b.to, b.from), stays ∙ here.0 ∙ free_found readable b ne aligned here.1)
]
first_more {img} {dir} {at} {after} {slot} free next readable b aligned met other (inr past) =
    let stays : next ≡ free = other (λ is. omega (arith, is, past.0, b.from)) in
    inr (omega (arith, stays, past.0, b.to, b.from), stays ∙ past.1)

-- and where no slot is left
pub first_end : {img : List ℕ} {dir : Inode} {at : ℕ} (free : ℕ) → IsReadable img dir → at % 256 ≡ 0 → at ≤ dir.size → AreEmpty (dir_of img dir) at dir.size
    → IsFirstFree (dir_of img dir) at free → free ≡ free_slot (dir_of img dir)
first_end {img} {dir} {at} free readable aligned le empty (inl here) =
    here.0 ∙ sym (free_end (dir_of img dir) at (whole_dir img dir readable) aligned le empty) ∙ here.1 ∙ free_all (dir_of img dir)
first_end {img} {dir} {at} free readable aligned le empty (inr past) = past.1 ∙ free_all (dir_of img dir)
