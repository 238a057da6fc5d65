-- The pages of a slot and of an inode, and the slot itself.
use Rattle.std.proofs.Common.{◌≡◌, ℕ, zero, suc, ◌+◌, ◌-◌, ◌*◌, ◌/◌, ◌%◌, ◌^◌, ◌<◌, ◌≤◌, true, false, List, [], ◌∷◌, refl, ◌⊎◌, inl, inr, arith}
use Rattle.std.specs.Prelude.{nat_le, nat_lt, ◌==◌, ◌&&◌, ◌||◌}
use Rattle.std.proofs.lemmas.Bool.{cases_Bool, cases_lt, and_left, and_parts, and_right, eqb-true, false_from_ne_true, leb-true, lt-leb, ltb-true, le-ltb, ne_eqb, or_cases}
use Rattle.ct_base.specs.Inode.{inode, little, part_bytes}
use Rattle.ct_base.specs.Objects.{Object}
use Rattle.ct_base.specs.Plan.{page_want}
use Rattle.ct_base.specs.Rules.{Owns}
use Rattle.ct_base.specs.Slots.{IsSlot, free_slot, free_slot_from}
use Rattle.ct_base.specs.View.{view, inode_count}
use Rattle.ct_base.specs.Wants.{is_on_path, is_wanted}
use Rattle.ct_call.specs.Mounted.{AreOwned}

-- ---- the slot

free_later : (f : Object) (o n : ℕ) → (little f.at o 256 == 0) ≡ false → free_slot_from f o (suc n) ≡ free_slot_from f (o + 256) n
unfolding free_slot_from
free_later f o n used = rw used refl

-- the next slot is not used
free_empty : (f : Object) (o n : ℕ) → free_slot_from f o n < o + 256 * n → little f.at (free_slot_from f o n) 256 ≡ 0
unfolding free_slot_from
free_empty f o zero below = absurd (omega arith)
free_empty f o (suc n) below = elim (cases_Bool (little f.at o 256 == 0)) [
  | inl here ↦ rw here (eqb-true (little f.at o 256) 0 here)
  | inr used ↦ let later : free_slot_from f (o + 256) n < o + 256 + 256 * n = omega (arith, free_later f o n used, below) in rw used (free_empty f (o + 256) n later)
]

pub free_unused : (f : Object) → f.size % 256 ≡ 0 → IsSlot f (free_slot f) → ⊥
free_unused f whole slot = slot.used (free_empty f 0 (f.size / 256) (omega (arith, slot.below, whole)))

-- ---- the pages

-- a page is wanted at one address: the cell's range holds it
pub at_address : (d x v : ℕ) → is_on_path d x (page_want v) ≡ true → (x * (4096 * 512 ^ (4 - d)) ≤ v) × (v < (x + 1) * (4096 * 512 ^ (4 - d)))
at_address d x v on =
    let parts = and_parts (nat_le (d + 0) 4) (nat_le (x * (4096 * 512 ^ (4 - d)) + 1) (v + 1) && nat_lt v ((x + 1) * (4096 * 512 ^ (4 - d)))) on in
    let both = and_parts (nat_le (x * (4096 * 512 ^ (4 - d)) + 1) (v + 1)) (nat_lt v ((x + 1) * (4096 * 512 ^ (4 - d)))) parts.1 in
    (omega (arith, leb-true (x * (4096 * 512 ^ (4 - d)) + 1) (v + 1) both.0), ltb-true v ((x + 1) * (4096 * 512 ^ (4 - d))) both.1)

pub two_cases : (d x v u : ℕ) → is_wanted (page_want v ∷ page_want u ∷ []) d x ≡ true → (is_on_path d x (page_want v) ≡ true) ⊎ (is_on_path d x (page_want u) ≡ true)
two_cases d x v u is = elim (or_cases (is_on_path d x (page_want v)) (is_on_path d x (page_want u) || false) is) [
  | inl first ↦ inl first
  | inr more ↦ elim (or_cases (is_on_path d x (page_want u)) false more) [ inl second ↦ inr second | inr none ↦ absurd (Rattle.std.proofs.lemmas.Bool.false≢true none) ]
]

-- a slot in the partition of a directory, and an inode: their pages are owned, or lie below the staging slots
pub entry_owned : (img : List ℕ) (dir offset number : ℕ) → Owns (view img) (inode_count img) dir → 10 * 2 ^ 39 ≤ (inode (view img) dir).base → (inode (view img) dir).base + offset < 2 ^ 48 → (inode (view img) dir).base % 4096 ≡ 0
    → offset < part_bytes (inode (view img) dir).level → number ≤ 1048576 → AreOwned img (page_want ((inode (view img) dir).base + offset) ∷ page_want (64 * number) ∷ [])
entry_owned img dir offset number owns low high aligned inside few = record {
  pages = λ p from is. elim (two_cases 4 p v (64 * number) is) [
    | inl slot ↦
        let at = at_address 4 p v slot in
        (dir, owns, record { from = omega (arith, at.0, at.1, aligned); to = omega (arith, at.0, at.1, inside) })
    | inr object ↦ let at = at_address 4 p (64 * number) object in absurd (omega (arith, at.0, at.1, from, few))
  ];
  staging = λ k lt. false_from_ne_true _ (λ is. elim (two_cases 1 (2 + k) v (64 * number) is) [
    | inl slot ↦ let at = at_address 1 (2 + k) v slot in omega (arith, at.0, at.1, low, lt)
    | inr object ↦ let at = at_address 1 (2 + k) (64 * number) object in omega (arith, at.0, at.1, few, lt)
  ]);
}
  where
    v : ℕ
    v = (inode (view img) dir).base + offset
