-- The list of calls that are to come, call by call.
use Rattle.std.proofs.Common.{◌≡◌, ◌≢◌, ℕ, suc, ◌+◌, ◌-◌, ◌/◌, ◌^◌, ◌<◌, ◌≤◌, [], ◌∷◌, ◌++◌, sym, ap, ◌∙◌, arith}
use Rattle.ct_tree.specs.Step.{Op, create}
use Rattle.ct_gen.specs.Made.{creations, draws, drawn, file_path, next_state}

pub creations-step : (f : ℕ) → f < 16 → creations (16 - f) f ≡ create (file_path f) ∷ creations (16 - (f + 1)) (f + 1)
unfolding creations
creations-step f low = let e : 16 - f ≡ suc (16 - (f + 1)) = omega (arith, low) in ap (λ n. creations n f) e

pub creations-end : (f : ℕ) → 16 ≤ f → creations (16 - f) f ≡ []
unfolding creations
creations-end f high = let e : 16 - f ≡ 0 = omega (arith, high) in ap (λ n. creations n f) e

pub draws-step : (n x : ℕ) → n ≢ 0 → draws n x ≡ drawn (next_state x / 2 ^ 32) ∷ draws (n - 1) (next_state x)
unfolding draws
draws-step n x some = let e : n ≡ suc (n - 1) = omega (arith, some) in ap (λ k. draws k x) e

pub draws-end : (n x : ℕ) → n ≡ 0 → draws n x ≡ []
unfolding draws
draws-end n x none = ap (λ k. draws k x) none

-- no file is left to be made
pub draws-alone : (f n x : ℕ) → 16 ≤ f → creations (16 - f) f ++ draws n x ≡ draws n x
draws-alone f n x high = ap (λ cs. cs ++ draws n x) (creations-end f high)

-- the next call is a draw
pub drawn-next : (f n x s : ℕ) (op : Op) → 16 ≤ f → n ≢ 0 → s ≡ next_state x → op ≡ drawn (s / 2 ^ 32)
    → creations (16 - f) f ++ draws n x ≡ op ∷ (creations (16 - f) f ++ draws (n - 1) s)
drawn-next f n x s op high some state is =
    draws-alone f n x high
    ∙ draws-step n x some
    ∙ ap (λ y. drawn (y / 2 ^ 32) ∷ draws (n - 1) y) (sym state)
    ∙ ap (λ o. o ∷ draws (n - 1) s) (sym is)
    ∙ ap (λ ops. op ∷ ops) (sym (draws-alone f (n - 1) s high))
