-- What the steps of a stretch store.
use Rattle.std.proofs.Common.{◌≡◌, ℕ, List, [], ◌∷◌, ◌++◌, Option, Some, None, Result, Ok, Err, refl, ◌∙◌, ap}
use Rattle.ct_pm.specs.declared.step.Step.{Step}
use Rattle.ct_pm.specs.declared.step.Step.TheVariants.{Store, Flush, Fence}
use Rattle.ct_pm.specs.Images.{History}
use Rattle.ct_pm.specs.Device.{with_steps, AddsStep, StoresOnly, EachStores, MakesOnly}
use Rattle.ct_pm.proofs.Told.{with_more}

-- the history itself has no step more
pub no_steps : (told : Option History) → told ≡ with_steps [] told
no_steps None = refl
no_steps (Some h) = refl

-- no step
pub makes_none : (P : ℕ → ℕ → Type 0) (told : Option History) → MakesOnly P told told
makes_none P told = record { added = []; goes_on = no_steps told; each = tt }

-- one step more, made or refused
pub makes_step : {T E : Type 0} {P : ℕ → ℕ → Type 0} {old mid new : Option History} {step : Step} (r : Result T E) → MakesOnly P old mid → AddsStep r step mid new → StoresOnly P step → MakesOnly P old new
makes_step {old = old} {step = step} (Ok done) made adds p = record {
  added = step ∷ made.added;
  goes_on = adds.ok ∙ ap (with_steps (step ∷ [])) made.goes_on ∙ with_more old made.added (step ∷ []);
  each = (p, made.each);
}
makes_step (Err error) made adds p = record { added = made.added; goes_on = adds.err ∙ made.goes_on; each = made.each }

each_append : (P : ℕ → ℕ → Type 0) (more added : List Step) → EachStores P more → EachStores P added → EachStores P (more ++ added)
each_append P [] added first second = second
each_append P (step ∷ more) added first second = (first.0, each_append P more added first.1 second)

-- one stretch after another
pub makes_then : {P : ℕ → ℕ → Type 0} {old mid new : Option History} → MakesOnly P old mid → MakesOnly P mid new → MakesOnly P old new
makes_then {P = P} {old = old} made more = record {
  added = more.added ++ made.added;
  goes_on = more.goes_on ∙ ap (with_steps more.added) made.goes_on ∙ with_more old made.added more.added;
  each = each_append P more.added made.added more.each made.each;
}

step_weaker : (P Q : ℕ → ℕ → Type 0) → ((word value : ℕ) → P word value → Q word value) → (step : Step) → StoresOnly P step → StoresOnly Q step
step_weaker P Q weak (Store word value) p = weak word value p
step_weaker P Q weak (Flush line) p = tt
step_weaker P Q weak Fence p = tt

each_weaker : (P Q : ℕ → ℕ → Type 0) → ((word value : ℕ) → P word value → Q word value) → (steps : List Step) → EachStores P steps → EachStores Q steps
each_weaker P Q weak [] each = tt
each_weaker P Q weak (step ∷ steps) each = (step_weaker P Q weak step each.0, each_weaker P Q weak steps each.1)

pub makes_weaker : {P : ℕ → ℕ → Type 0} {old new : Option History} (Q : ℕ → ℕ → Type 0) → ((word value : ℕ) → P word value → Q word value) → MakesOnly P old new → MakesOnly Q old new
makes_weaker {P = P} Q weak made = record { added = made.added; goes_on = made.goes_on; each = each_weaker P Q weak made.added made.each }
