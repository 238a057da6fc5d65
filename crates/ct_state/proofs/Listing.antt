-- The list of a directory's entries holds its slots, in rising order.
use Rattle.std.proofs.Common.{◌≡◌, ◌≢◌, ℕ, zero, suc, ◌+◌, ◌*◌, ◌/◌, ◌%◌, ◌<◌, ◌≤◌, List, [], ◌∷◌, ap, ◌∙◌, ◌⊎◌, inl, inr, arith}
use Rattle.std.specs.Prelude.{◌==◌}
use Rattle.std.proofs.lemmas.Bool.{cases_Bool, cases_eq, eqb-true, eqb-false}
use Rattle.ct_base.specs.Inode.{little}
use Rattle.ct_base.specs.Objects.{Object}
use Rattle.ct_base.specs.Slots.{IsSlot, Entry, entry_at, entries_from, entries}

-- the entry is one of the list
abbrev pub IsOneOf : Entry → List Entry → Type 0
IsOneOf e [] = ⊥
IsOneOf e (x ∷ xs) = (e ≡ x) ⊎ IsOneOf e xs

pub from_slot : (f : Object) (n o k : ℕ) → o % 256 ≡ 0 → o ≤ k → k < o + 256 * n → k % 256 ≡ 0 → little f.at k 256 ≢ 0 → IsOneOf (entry_at f k) (entries_from f o n)
unfolding entries_from
from_slot f zero o k whole low high aligned used = omega arith
from_slot f (suc n) o k whole low high aligned used = elim (cases_Bool (little f.at o 256 == 0)) [
  | inl t ↦
      let other : k ≢ o = λ is. used (ap (λ j. little f.at j 256) is ∙ eqb-true (little f.at o 256) 0 t) in
      rw t (from_slot f n (o + 256) k (omega arith) (omega arith) (omega arith) aligned used)
  | inr e ↦ rw e (elim (cases_eq k o) [
    | inl here ↦ inl (ap (entry_at f) here)
    | inr other ↦ inr (from_slot f n (o + 256) k (omega arith) (omega arith) (omega arith) aligned used)
  ])
]

pub to_slot : (f : Object) (n o : ℕ) (e : Entry) → f.kind ≡ 2 → o % 256 ≡ 0 → o + 256 * n ≤ f.size → IsOneOf e (entries_from f o n) → (k : ℕ) × IsSlot f k × (e ≡ entry_at f k)
unfolding entries_from
to_slot f zero o e dir whole fits one = absurd one
to_slot f (suc n) o e dir whole fits one = elim (cases_Bool (little f.at o 256 == 0)) [
  | inl t ↦ to_slot f n (o + 256) e dir (omega arith) (omega arith) (rw t at one)
  | inr u ↦
      let cases : (e ≡ entry_at f o) ⊎ IsOneOf e (entries_from f (o + 256) n) = rw u at one in
      elim cases [
        | inl is ↦ (o, record { dir = dir; below = omega arith; aligned = whole; used = λ z. eqb-false (little f.at o 256) 0 u z }, is)
        | inr more ↦ to_slot f n (o + 256) e dir (omega arith) (omega arith) more
      ]
]

pub slot_listed : (f : Object) (o : ℕ) → f.size % 256 ≡ 0 → IsSlot f o → IsOneOf (entry_at f o) (entries f)
slot_listed f o whole s = from_slot f (f.size / 256) 0 o (omega arith) (omega arith) (omega (arith, s.below, whole)) s.aligned s.used

pub listed_slot : (f : Object) (e : Entry) → f.kind ≡ 2 → IsOneOf e (entries f) → (k : ℕ) × IsSlot f k × (e ≡ entry_at f k)
listed_slot f e dir one = to_slot f (f.size / 256) 0 e dir (omega arith) (omega arith) one
