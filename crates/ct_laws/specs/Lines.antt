-- Three histories of two lines of words, and what a crash may leave of each.
use Rattle.std.specs.Prelude.{◌≡◌, ◌⊎◌, ◌↔◌, ℕ, List, [], ◌∷◌, slice_index}
use Rattle.ct_pm.specs.declared.step.Step.{Step}
use Rattle.ct_pm.specs.declared.step.Step.TheVariants.{Store, Flush, Fence}
use Rattle.ct_pm.specs.Images.{History, IsAllowed}

-- two lines of words that are all 0
abbrev pub zeros : List ℕ
zeros = 0 ∷ 0 ∷ 0 ∷ 0 ∷ 0 ∷ 0 ∷ 0 ∷ 0 ∷ 0 ∷ 0 ∷ 0 ∷ 0 ∷ 0 ∷ 0 ∷ 0 ∷ 0 ∷ []

-- these steps were made, given with the newest first
abbrev pub after_steps : List Step → History
after_steps steps = record { start = zeros; steps = steps }

-- an image that a crash may leave has these values at two words
abbrev pub MayLeave : List Step → ℕ → ℕ → ℕ → ℕ → Type 0
MayLeave steps word other value other_value =
    (image : List ℕ) × IsAllowed (after_steps steps) image × (slice_index image word ≡ value) × (slice_index image other ≡ other_value)

abbrev pub one_line_steps : List Step
one_line_steps = Store 1 2 ∷ Store 0 1 ∷ []

abbrev pub StoresToOneLineAppearInOrder : Type 0
StoresToOneLineAppearInOrder =
    (a b : ℕ) → MayLeave one_line_steps 0 1 a b ↔ (((a ≡ 0) × (b ≡ 0)) ⊎ (((a ≡ 1) × (b ≡ 0)) ⊎ ((a ≡ 1) × (b ≡ 2))))

abbrev pub two_line_steps : List Step
two_line_steps = Store 8 2 ∷ Store 0 1 ∷ []

abbrev pub StoresToTwoLinesAppearInAnyOrder : Type 0
StoresToTwoLinesAppearInAnyOrder =
    (a b : ℕ) → MayLeave two_line_steps 0 8 a b ↔ (((a ≡ 0) ⊎ (a ≡ 1)) × ((b ≡ 0) ⊎ (b ≡ 2)))

abbrev pub fence_steps : List Step
fence_steps = Fence ∷ Store 0 3 ∷ Flush 0 ∷ Store 0 1 ∷ []

abbrev pub AFenceKeepsWhatWasFlushed : Type 0
AFenceKeepsWhatWasFlushed = (a : ℕ) → MayLeave fence_steps 0 1 a 0 ↔ ((a ≡ 1) ⊎ (a ≡ 3))

abbrev pub flush_steps : List Step
flush_steps = Flush 0 ∷ Store 0 1 ∷ []

abbrev pub AFlushAloneKeepsNothing : Type 0
AFlushAloneKeepsNothing = (a : ℕ) → MayLeave flush_steps 0 1 a 0 ↔ ((a ≡ 0) ⊎ (a ≡ 1))
