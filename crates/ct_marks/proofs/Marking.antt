-- Marks in a list of bytes.
use Rattle.std.proofs.Common.{◌≡◌, ◌≢◌, ℕ, ◌<◌, true, false, List, length, get_or, set, replicate, ap, inl, inr, arith}
use Rattle.std.specs.Prelude.{◌==◌, not}
use Rattle.std.proofs.lemmas.Bool.{cases_lt, eq-eqb, ne_eqb}
use Rattle.std.proofs.lemmas.List.{get_or-set_same, get_or-set_other, get_or-replicate, get_or_past, length-replicate}
use Rattle.ct_marks.specs.Marks.{is_marked}

pub marked_zero : (marks : List ℕ) (page : ℕ) → get_or marks page 0 ≡ 0 → is_marked marks page ≡ false
unfolding is_marked
marked_zero marks page none = ap not (eq-eqb (get_or marks page 0) 0 none)

pub marked_some : (marks : List ℕ) (page : ℕ) → get_or marks page 0 ≢ 0 → is_marked marks page ≡ true
unfolding is_marked
marked_some marks page some = ap not (ne_eqb (get_or marks page 0) 0 some)

pub marked_other : (marks : List ℕ) (page v q : ℕ) → q ≢ page → is_marked (set marks page v) q ≡ is_marked marks q
unfolding is_marked
marked_other marks page v q ne = ap (λ k. not (k == 0)) (get_or-set_other marks page q v 0 ne)

pub marked_here : (marks : List ℕ) (page : ℕ) → page < length marks → is_marked (set marks page 1) page ≡ true
marked_here marks page lt = marked_some (set marks page 1) page (λ none. omega (arith, get_or-set_same marks page 1 0 lt, none))

pub marked_none : (n q : ℕ) → is_marked (replicate n 0) q ≡ false
marked_none n q = marked_zero (replicate n 0) q (elim (cases_lt q n) [
  | inl lt ↦ get_or-replicate n q 0 0 lt
  | inr ge ↦ get_or_past (replicate n 0) q 0 (omega (arith, length-replicate {A = ℕ} n 0))
])
