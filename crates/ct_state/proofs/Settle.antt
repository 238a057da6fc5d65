-- Settled images.
use Rattle.std.proofs.Common.{◌≡◌, ◌≢◌, ℕ, zero, suc, ◌+◌, ◌-◌, ◌*◌, ◌/◌, ◌%◌, ◌^◌, ◌<◌, ◌≤◌, List, [], ◌∷◌, length, refl, sym, ap, ap₂, ◌∙◌, ◌⊎◌, inl, inr, arith}
use Rattle.std.specs.Prelude.{slice_set}
use Rattle.std.proofs.lemmas.Bool.{cases_eq, cases_lt}
use Rattle.std.proofs.lemmas.List.{set-get_or, get_or-set_same, get_or-set_other, get_or_past}
use Rattle.ct_base.specs.Walk.{word, page_count, next, page_at, byte, byte_in}
use Rattle.ct_base.specs.Settled.{Pair, Named, with_pairs, open_pairs, pairs_behind, cleared, settled, IsShut}
use Rattle.ct_image.proofs.Pairs.{length-with_pairs, with_pairs_off}
use Rattle.ct_image.proofs.Steps.{next-same, page_at-same_root, page_at-next, page_at-low, walk-cell, byte_in-same}
use Rattle.ct_state.specs.Alike.{Alike}
use Rattle.ct_state.proofs.Carry.{view-same}
use Rattle.ct_state.proofs.Neutral.{seen-bounds}

set_none : (img : List ℕ) (w x : ℕ) → word img w ≡ x → slice_set img w x ≡ img
set_none img w x is = ap (slice_set img w) (sym is) ∙ set-get_or img w 0

-- every pair puts a 0
abbrev AreZeros : List Pair → Type 0
AreZeros [] = Unit {0}
AreZeros (pair ∷ pairs) = (pair.value ≡ 0) × AreZeros pairs

cleared_zeros : AreZeros cleared
unfolding cleared
cleared_zeros = (refl, (refl, (refl, (refl, (refl, (refl, (refl, (refl, (refl, (refl, tt))))))))))

-- a word that is 0 already stays as it is
zeros_stay : (pairs : List Pair) (img : List ℕ) → AreZeros pairs → ((w : ℕ) → Named pairs w → word img w ≡ 0) → with_pairs pairs img ≡ img
zeros_stay [] img zeros none = refl
zeros_stay (pair ∷ pairs) img zeros none =
    ap (λ f. slice_set f pair.word pair.value) (zeros_stay pairs img zeros.1 (λ w named. none w (inr named)))
    ∙ set_none img pair.word pair.value (none pair.word (inl refl) ∙ sym zeros.0)

-- a word that is named is 0 afterwards
zeros_put : (pairs : List Pair) (img : List ℕ) (w : ℕ) → AreZeros pairs → Named pairs w → word (with_pairs pairs img) w ≡ 0
zeros_put [] img w zeros named = absurd named
zeros_put (pair ∷ pairs) img w zeros named = elim (cases_eq w pair.word) [
  | inl is ↦ elim (cases_lt pair.word (length img)) [
    | inl within ↦ ap (word (with_pairs (pair ∷ pairs) img)) is ∙ get_or-set_same (with_pairs pairs img) pair.word pair.value 0 (omega (arith, length-with_pairs pairs img, within)) ∙ zeros.0
    | inr past ↦ get_or_past (with_pairs (pair ∷ pairs) img) w 0 (omega (arith, length-with_pairs (pair ∷ pairs) img, is, past))
  ]
  | inr other ↦ get_or-set_other (with_pairs pairs img) pair.word w pair.value 0 other ∙ zeros_put pairs img w zeros.1 (later named other)
]
  where
    later : Named (pair ∷ pairs) w → w ≢ pair.word → Named pairs w
    later (inl is) other = absurd (other is)
    later (inr named) other = named

-- the word is a root slot from 2 to 9
pub record IsStagingSlot (w : ℕ) : Type 0 where
  pub from : 33 * 512 + 2 ≤ w
  pub to : w < 33 * 512 + 10

-- what is cleared: the gates and the staging slots
cleared_names : (w : ℕ) → Named cleared w → (w ≡ 512) ⊎ ((w ≡ 527) ⊎ IsStagingSlot w)
unfolding cleared
cleared_names w (inl e) = inl e
cleared_names w (inr (inl e)) = inr (inl e)
cleared_names w (inr (inr (inl e))) = inr (inr (record { from = omega (arith, e); to = omega (arith, e) }))
cleared_names w (inr (inr (inr (inl e)))) = inr (inr (record { from = omega (arith, e); to = omega (arith, e) }))
cleared_names w (inr (inr (inr (inr (inl e))))) = inr (inr (record { from = omega (arith, e); to = omega (arith, e) }))
cleared_names w (inr (inr (inr (inr (inr (inl e)))))) = inr (inr (record { from = omega (arith, e); to = omega (arith, e) }))
cleared_names w (inr (inr (inr (inr (inr (inr (inl e))))))) = inr (inr (record { from = omega (arith, e); to = omega (arith, e) }))
cleared_names w (inr (inr (inr (inr (inr (inr (inr (inl e)))))))) = inr (inr (record { from = omega (arith, e); to = omega (arith, e) }))
cleared_names w (inr (inr (inr (inr (inr (inr (inr (inr (inl e))))))))) = inr (inr (record { from = omega (arith, e); to = omega (arith, e) }))
cleared_names w (inr (inr (inr (inr (inr (inr (inr (inr (inr (inl e)))))))))) = inr (inr (record { from = omega (arith, e); to = omega (arith, e) }))
cleared_names w (inr (inr (inr (inr (inr (inr (inr (inr (inr (inr none)))))))))) = absurd none

pub slot_2_cleared : Named cleared (33 * 512 + 2)
unfolding cleared
slot_2_cleared = inr (inr (inl refl))

gates_cleared : Named cleared 512 × Named cleared 527
unfolding cleared
gates_cleared = (inl refl, inr (inl refl))

slots_cleared : (w : ℕ) → IsStagingSlot w → Named cleared w
unfolding cleared
slots_cleared w slot = inr (inr (from w (w - (33 * 512 + 2)) (let a = slot.from in let b = slot.to in omega arith) (let a = slot.from in let b = slot.to in omega arith)))
  where
    from : (w k : ℕ) → w ≡ 33 * 512 + 2 + k → k < 8 → (w ≡ 16898) ⊎ ((w ≡ 16899) ⊎ ((w ≡ 16900) ⊎ ((w ≡ 16901) ⊎ ((w ≡ 16902) ⊎ ((w ≡ 16903) ⊎ ((w ≡ 16904) ⊎ ((w ≡ 16905) ⊎ ⊥)))))))
    from w k at lt = elim (cases_eq w 16898) [ inl e ↦ inl e | inr n0 ↦ inr (elim (cases_eq w 16899) [ inl e ↦ inl e | inr n1 ↦ inr (elim (cases_eq w 16900) [ inl e ↦ inl e | inr n2 ↦ inr (elim (cases_eq w 16901) [ inl e ↦ inl e | inr n3 ↦ inr (elim (cases_eq w 16902) [ inl e ↦ inl e | inr n4 ↦ inr (elim (cases_eq w 16903) [ inl e ↦ inl e | inr n5 ↦ inr (elim (cases_eq w 16904) [ inl e ↦ inl e | inr n6 ↦ inr (inl (omega arith)) ]) ]) ]) ]) ]) ]) ]

-- words that are not cleared stay
pub cleared_off : (img : List ℕ) (w : ℕ) → w ≢ 512 → w ≢ 527 → (IsStagingSlot w → ⊥) → word (with_pairs cleared img) w ≡ word img w
cleared_off img w long short staging = with_pairs_off cleared img w (λ named. elim (cleared_names w named) [
  | inl e ↦ long e
  | inr more ↦ elim more [ inl e ↦ short e | inr slot ↦ staging slot ]
])

pub open_shut : (img : List ℕ) → IsShut img → open_pairs img ≡ []
open_shut img shut = ap₂ (λ (l s : ℕ). pairs_behind l s img) shut.0 shut.1

pub settled_shut : (img : List ℕ) → IsShut img → settled img ≡ with_pairs cleared img
unfolding settled
settled_shut img shut = ap (λ (ps : List Pair). with_pairs cleared (with_pairs ps img)) (open_shut img shut)

-- with empty staging it is the image itself
pub settled_idle : (img : List ℕ) → IsShut img → ((k : ℕ) → k < 8 → word img (33 * 512 + 2 + k) ≡ 0) → settled img ≡ img
settled_idle img shut none = settled_shut img shut ∙ zeros_stay cleared img cleared_zeros (λ w named. elim (cleared_names w named) [
  | inl e ↦ ap (word img) e ∙ shut.0
  | inr more ↦ elim more [
    | inl e ↦ ap (word img) e ∙ shut.1
    | inr slot ↦ let from = slot.from in let to = slot.to in ap (word img) (omega arith) ∙ none (w - (33 * 512 + 2)) (omega arith)
  ]
])

-- a settled image has both gates shut and no staging, so settling again changes nothing
pub settled_is_shut : (img : List ℕ) → IsShut (settled img)
unfolding settled
settled_is_shut img =
    (zeros_put cleared (with_pairs (open_pairs img) img) 512 cleared_zeros gates_cleared.0, zeros_put cleared (with_pairs (open_pairs img) img) 527 cleared_zeros gates_cleared.1)

pub settled_unstaged : (img : List ℕ) (k : ℕ) → k < 8 → word (settled img) (33 * 512 + 2 + k) ≡ 0
unfolding settled
settled_unstaged img k lt =
    zeros_put cleared (with_pairs (open_pairs img) img) (33 * 512 + 2 + k) cleared_zeros (slots_cleared (33 * 512 + 2 + k) (record { from = omega arith; to = omega arith }))

pub settled_twice : (img : List ℕ) → settled (settled img) ≡ settled img
settled_twice img = settled_idle (settled img) (settled_is_shut img) (settled_unstaged img)

-- images that agree off the record
pub record AgreeOffRecord (f g : List ℕ) : Type 0 where
  pub words : (w : ℕ) → (w < 512) ⊎ (33 * 512 ≤ w) → word g w ≡ word f w
  pub size : length g ≡ length f

module _ {f g : List ℕ} (a : AgreeOffRecord f g) where
  count_off : page_count g ≡ page_count f
  count_off = a.words 2 (inl (omega arith))

  pub cells_off : (e y : ℕ) → page_at g e y ≡ page_at f e y
  cells_off zero y = page_at-same_root f g y
  cells_off (suc e) y =
      page_at-next g e y ∙ ap (λ t. next g t (y % 512)) (cells_off e (y / 512))
      ∙ next-same f g _ (y % 512) count_off (λ ne. a.words _ (inr (omega (arith, page_at-low f e (y / 512) ne)))) ∙ sym (page_at-next f e y)

  pub bytes_off : (v : ℕ) → v < 2 ^ 48 → byte g v ≡ byte f v
  bytes_off v lt =
      ap (λ t. byte_in g t (v % 4096)) (walk-cell g v lt ∙ cells_off 4 (v / 4096))
      ∙ byte_in-same f g _ (v % 4096) (λ ne. a.words _ (inr (omega (arith, page_at-low f 4 (v / 4096) ne))))
      ∙ sym (ap (λ t. byte_in f t (v % 4096)) (walk-cell f v lt))

  pub alike_off : Alike f g
  alike_off = record { bytes = view-same f g (λ v seen. bytes_off v (seen-bounds v seen).0); inodes = a.words 3 (inl (omega arith)) }
