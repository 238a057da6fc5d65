-- The steps that store word 0.
use Rattle.std.proofs.Common.{◌≡◌, ◌∙◌, ◌≤◌, ℕ, zero, suc, [], ◌∷◌, refl, Option, Result, Ok, Err, ap, arith}
use Rattle.std.specs.Prelude.{OnOk, OnErr}
use Rattle.ct_pm.specs.declared.step.Step.TheVariants.{Store, Flush, Fence}
use Rattle.ct_pm.specs.Images.{History, first}
use Rattle.ct_pm.specs.Device.{with_steps, AddsStep}
use Rattle.ct_pm.proofs.Told.{with_more}
use Rattle.ct_format.specs.Formatting.{Makes, magic_steps}

pub on_err : {T E P : Type 0} (r : Result T E) → P → OnErr r P
on_err (Ok done) p = tt
on_err (Err error) p = p

module _ (v : ℕ) (old : Option History) {stored : Option History} (s : stored ≡ with_steps (Store 0 v ∷ []) old) where
  -- the flush failed
  pub one_made : {new : Option History} → new ≡ stored → Makes (Flush 0 ∷ Store 0 v ∷ []) old new
  one_made same = (1, omega arith, same ∙ s)

  module _ {flushed : Option History} (f : flushed ≡ with_steps (Flush 0 ∷ []) stored) where
    two : flushed ≡ with_steps (Flush 0 ∷ Store 0 v ∷ []) old
    two = f ∙ ap (with_steps (Flush 0 ∷ [])) s ∙ with_more old (Store 0 v ∷ []) (Flush 0 ∷ [])

    three : {new : Option History} → new ≡ with_steps (Fence ∷ []) flushed → new ≡ with_steps (magic_steps v) old
    three is = is ∙ ap (with_steps (Fence ∷ [])) two ∙ with_more old (Flush 0 ∷ Store 0 v ∷ []) (Fence ∷ [])

    -- the fence was made
    pub all_made : {T E : Type 0} {new : Option History} (r : Result T E) → AddsStep r Fence flushed new → OnOk r (new ≡ with_steps (magic_steps v) old)
    all_made (Ok done) adds = three adds.ok
    all_made (Err error) adds = tt

    -- or failed
    pub two_made : {T E : Type 0} {new : Option History} (r : Result T E) → AddsStep r Fence flushed new → OnErr r (Makes (Flush 0 ∷ Store 0 v ∷ []) old new)
    two_made (Ok done) adds = tt
    two_made (Err error) adds = (2, omega arith, adds.err ∙ two)

fewer : (v n : ℕ) → n ≤ 2 → first n (Flush 0 ∷ Store 0 v ∷ []) ≡ first n (magic_steps v)
fewer v zero le = refl
fewer v (suc zero) le = refl
fewer v (suc (suc zero)) le = refl
fewer v (suc (suc (suc n))) le = absurd (omega arith)

-- some of the steps, whether it is done or stopped
pub magic_made : {T E : Type 0} (r : Result T E) (v : ℕ) (old new : Option History) → OnOk r (new ≡ with_steps (magic_steps v) old) → OnErr r (Makes (Flush 0 ∷ Store 0 v ∷ []) old new) → Makes (magic_steps v) old new
magic_made (Ok done) v old new all some = (3, omega arith, all)
magic_made (Err error) v old new all some = (some.0, omega (arith, some.1), some.2 ∙ ap (λ s. with_steps s old) (fewer v some.0 some.1))
