-- Images of the examples: each line chooses the step after which it is shown.
use Rattle.std.proofs.Common.{◌≡◌, ◌≢◌, ℕ, zero, suc, ◌/◌, ◌≤◌, ◌⊎◌, refl, sym, ap, ◌∙◌, inl, inr, arith}
use Rattle.std.specs.Prelude.{slice_index, slice_set, ◌==◌, Bool, true, false, if◌then◌else◌}
use Rattle.std.proofs.lemmas.Bool.{cases_eq}
use Rattle.std.proofs.lemmas.List.{get_or-set_other}
use Rattle.ct_pm.specs.Images.{IsAllowed, ShowsLine, SameLine, floor, reads, at}
use Rattle.ct_laws.specs.Lines.{zeros, after_steps, MayLeave, one_line_steps, two_line_steps, fence_steps, flush_steps}

-- with no fence no step is settled, so every line may show any moment
one_at : (j : ℕ) → j ≤ 2 → IsAllowed (after_steps one_line_steps) (reads (at j (after_steps one_line_steps)))
one_at zero le = record { size = refl; lines = λ line. (0, omega arith, omega arith, λ w is. refl) }
one_at (suc zero) le = record { size = refl; lines = λ line. (1, omega arith, omega arith, λ w is. refl) }
one_at (suc (suc zero)) le = record { size = refl; lines = λ line. (2, omega arith, omega arith, λ w is. refl) }
one_at (suc (suc (suc j))) le = absurd (omega arith)

pub one_left : (a b : ℕ) → MayLeave one_line_steps 0 1 a b → ((a ≡ 0) × (b ≡ 0)) ⊎ (((a ≡ 1) × (b ≡ 0)) ⊎ ((a ≡ 1) × (b ≡ 2)))
one_left a b left = by (left.1.lines 0)
  where
    from : (j : ℕ) → j ≤ 2 → SameLine 0 left.0 (reads (at j (after_steps one_line_steps))) → ((a ≡ 0) × (b ≡ 0)) ⊎ (((a ≡ 1) × (b ≡ 0)) ⊎ ((a ≡ 1) × (b ≡ 2)))
    from zero le same = inl (sym left.2 ∙ same 0 refl, sym left.3 ∙ same 1 refl)
    from (suc zero) le same = inr (inl (sym left.2 ∙ same 0 refl, sym left.3 ∙ same 1 refl))
    from (suc (suc zero)) le same = inr (inr (sym left.2 ∙ same 0 refl, sym left.3 ∙ same 1 refl))
    from (suc (suc (suc j))) le same = absurd (omega arith)

    by : ShowsLine (after_steps one_line_steps) left.0 0 → ((a ≡ 0) × (b ≡ 0)) ⊎ (((a ≡ 1) × (b ≡ 0)) ⊎ ((a ≡ 1) × (b ≡ 2)))
    by shown = from shown.0 shown.2 shown.3

pub one_may : (a b : ℕ) → ((a ≡ 0) × (b ≡ 0)) ⊎ (((a ≡ 1) × (b ≡ 0)) ⊎ ((a ≡ 1) × (b ≡ 2))) → MayLeave one_line_steps 0 1 a b
one_may a b (inl is) = (reads (at 0 (after_steps one_line_steps)), one_at 0 (omega arith), sym is.0, sym is.1)
one_may a b (inr (inl is)) = (reads (at 1 (after_steps one_line_steps)), one_at 1 (omega arith), sym is.0, sym is.1)
one_may a b (inr (inr is)) = (reads (at 2 (after_steps one_line_steps)), one_at 2 (omega arith), sym is.0, sym is.1)

-- the first line shows what it was before, and the second what it is
mixed_left : IsAllowed (after_steps two_line_steps) (slice_set zeros 8 2)
mixed_left = record {
  size = refl;
  lines = λ line. elim (cases_eq line 0) [
    | inl first ↦ (0, omega arith, omega arith, λ w is. get_or-set_other zeros 8 w 2 0 (λ here. omega (arith, here, is, first)))
    | inr other ↦ (2, omega arith, omega arith, λ w is. second w (λ zero_word. other (sym is ∙ ap (λ k. k / 8) zero_word)))
  ];
}
  where
    second : (w : ℕ) → w ≢ 0 → slice_index (slice_set zeros 8 2) w ≡ slice_index (slice_set (slice_set zeros 0 1) 8 2) w
    second w other = elim (cases_eq w 8) [
      | inl here ↦ ap (slice_index (slice_set zeros 8 2)) here ∙ sym (ap (slice_index (slice_set (slice_set zeros 0 1) 8 2)) here)
      | inr there ↦ get_or-set_other zeros 8 w 2 0 there ∙ sym (get_or-set_other zeros 0 w 1 0 other) ∙ sym (get_or-set_other (slice_set zeros 0 1) 8 w 2 0 there)
    ]

two_at : (j : ℕ) → j ≤ 2 → IsAllowed (after_steps two_line_steps) (reads (at j (after_steps two_line_steps)))
two_at zero le = record { size = refl; lines = λ line. (0, omega arith, omega arith, λ w is. refl) }
two_at (suc zero) le = record { size = refl; lines = λ line. (1, omega arith, omega arith, λ w is. refl) }
two_at (suc (suc zero)) le = record { size = refl; lines = λ line. (2, omega arith, omega arith, λ w is. refl) }
two_at (suc (suc (suc j))) le = absurd (omega arith)

pub two_left : (a b : ℕ) → MayLeave two_line_steps 0 8 a b → ((a ≡ 0) ⊎ (a ≡ 1)) × ((b ≡ 0) ⊎ (b ≡ 2))
two_left a b left = (first (left.1.lines 0), second (left.1.lines 1))
  where
    first_at : (j : ℕ) → j ≤ 2 → SameLine 0 left.0 (reads (at j (after_steps two_line_steps))) → (a ≡ 0) ⊎ (a ≡ 1)
    first_at zero le same = inl (sym left.2 ∙ same 0 refl)
    first_at (suc zero) le same = inr (sym left.2 ∙ same 0 refl)
    first_at (suc (suc zero)) le same = inr (sym left.2 ∙ same 0 refl)
    first_at (suc (suc (suc j))) le same = absurd (omega arith)

    first : ShowsLine (after_steps two_line_steps) left.0 0 → (a ≡ 0) ⊎ (a ≡ 1)
    first shown = first_at shown.0 shown.2 shown.3

    second_at : (j : ℕ) → j ≤ 2 → SameLine 1 left.0 (reads (at j (after_steps two_line_steps))) → (b ≡ 0) ⊎ (b ≡ 2)
    second_at zero le same = inl (sym left.3 ∙ same 8 refl)
    second_at (suc zero) le same = inl (sym left.3 ∙ same 8 refl)
    second_at (suc (suc zero)) le same = inr (sym left.3 ∙ same 8 refl)
    second_at (suc (suc (suc j))) le same = absurd (omega arith)

    second : ShowsLine (after_steps two_line_steps) left.0 1 → (b ≡ 0) ⊎ (b ≡ 2)
    second shown = second_at shown.0 shown.2 shown.3

pub two_may : (a b : ℕ) → ((a ≡ 0) ⊎ (a ≡ 1)) × ((b ≡ 0) ⊎ (b ≡ 2)) → MayLeave two_line_steps 0 8 a b
two_may a b is = by is.0 is.1
  where
    by : (a ≡ 0) ⊎ (a ≡ 1) → (b ≡ 0) ⊎ (b ≡ 2) → MayLeave two_line_steps 0 8 a b
    by (inl p) (inl q) = (reads (at 0 (after_steps two_line_steps)), two_at 0 (omega arith), sym p, sym q)
    by (inr p) (inl q) = (reads (at 1 (after_steps two_line_steps)), two_at 1 (omega arith), sym p, sym q)
    by (inr p) (inr q) = (reads (at 2 (after_steps two_line_steps)), two_at 2 (omega arith), sym p, sym q)
    by (inl p) (inr q) = (slice_set zeros 8 2, mixed_left, sym p, sym q)

-- the flush that the fence follows is step 2, and the other line has none
floor_most : (line : ℕ) → floor line fence_steps ≤ 2
floor_most line = by (0 == line)
  where
    by : (b : Bool) → (if b then 2 else 0) ≤ 2
    by true = omega arith
    by false = omega arith

fence_at : (j : ℕ) → 2 ≤ j → j ≤ 4 → IsAllowed (after_steps fence_steps) (reads (at j (after_steps fence_steps)))
fence_at zero from le = absurd (omega arith)
fence_at (suc zero) from le = absurd (omega arith)
fence_at (suc (suc zero)) from le = record { size = refl; lines = λ line. (2, floor_most line, omega arith, λ w is. refl) }
fence_at (suc (suc (suc zero))) from le = record { size = refl; lines = λ line. (3, omega (arith, floor_most line), omega arith, λ w is. refl) }
fence_at (suc (suc (suc (suc zero)))) from le = record { size = refl; lines = λ line. (4, omega (arith, floor_most line), omega arith, λ w is. refl) }
fence_at (suc (suc (suc (suc (suc j))))) from le = absurd (omega arith)

pub fence_left : (a : ℕ) → MayLeave fence_steps 0 1 a 0 → (a ≡ 1) ⊎ (a ≡ 3)
fence_left a left = by (left.1.lines 0)
  where
    shown_at : (j : ℕ) → 2 ≤ j → j ≤ 4 → SameLine 0 left.0 (reads (at j (after_steps fence_steps))) → (a ≡ 1) ⊎ (a ≡ 3)
    shown_at zero from le same = absurd (omega arith)
    shown_at (suc zero) from le same = absurd (omega arith)
    shown_at (suc (suc zero)) from le same = inl (sym left.2 ∙ same 0 refl)
    shown_at (suc (suc (suc zero))) from le same = inr (sym left.2 ∙ same 0 refl)
    shown_at (suc (suc (suc (suc zero)))) from le same = inr (sym left.2 ∙ same 0 refl)
    shown_at (suc (suc (suc (suc (suc j))))) from le same = absurd (omega arith)

    by : ShowsLine (after_steps fence_steps) left.0 0 → (a ≡ 1) ⊎ (a ≡ 3)
    by shown = shown_at shown.0 shown.1 shown.2 shown.3

pub fence_may : (a : ℕ) → (a ≡ 1) ⊎ (a ≡ 3) → MayLeave fence_steps 0 1 a 0
fence_may a (inl is) = (reads (at 2 (after_steps fence_steps)), fence_at 2 (omega arith) (omega arith), sym is, refl)
fence_may a (inr is) = (reads (at 4 (after_steps fence_steps)), fence_at 4 (omega arith) (omega arith), sym is, refl)

-- no fence follows the flush, so no step is settled
flush_at : (j : ℕ) → j ≤ 2 → IsAllowed (after_steps flush_steps) (reads (at j (after_steps flush_steps)))
flush_at zero le = record { size = refl; lines = λ line. (0, omega arith, omega arith, λ w is. refl) }
flush_at (suc zero) le = record { size = refl; lines = λ line. (1, omega arith, omega arith, λ w is. refl) }
flush_at (suc (suc zero)) le = record { size = refl; lines = λ line. (2, omega arith, omega arith, λ w is. refl) }
flush_at (suc (suc (suc j))) le = absurd (omega arith)

pub flush_left : (a : ℕ) → MayLeave flush_steps 0 1 a 0 → (a ≡ 0) ⊎ (a ≡ 1)
flush_left a left = by (left.1.lines 0)
  where
    shown_at : (j : ℕ) → j ≤ 2 → SameLine 0 left.0 (reads (at j (after_steps flush_steps))) → (a ≡ 0) ⊎ (a ≡ 1)
    shown_at zero le same = inl (sym left.2 ∙ same 0 refl)
    shown_at (suc zero) le same = inr (sym left.2 ∙ same 0 refl)
    shown_at (suc (suc zero)) le same = inr (sym left.2 ∙ same 0 refl)
    shown_at (suc (suc (suc j))) le same = absurd (omega arith)

    by : ShowsLine (after_steps flush_steps) left.0 0 → (a ≡ 0) ⊎ (a ≡ 1)
    by shown = shown_at shown.0 shown.2 shown.3

pub flush_may : (a : ℕ) → (a ≡ 0) ⊎ (a ≡ 1) → MayLeave flush_steps 0 1 a 0
flush_may a (inl is) = (reads (at 0 (after_steps flush_steps)), flush_at 0 (omega arith), sym is, refl)
flush_may a (inr is) = (reads (at 2 (after_steps flush_steps)), flush_at 2 (omega arith), sym is, refl)
