-- A step that stores, by the moment before it.
use Rattle.std.proofs.Common.{◌≡◌, ℕ, ◌+◌, ◌-◌, ◌≤◌, List, [], ◌∷◌, ◌++◌, Some, length, refl, sym, ◌∙◌, ap, subst, inl, inr, arith}
use Rattle.std.proofs.lemmas.Bool.{cases_lt}
use Rattle.std.proofs.lemmas.Option.{same_Some}
use Rattle.ct_pm.specs.declared.step.Step.{Step}
use Rattle.ct_pm.specs.declared.step.Step.TheVariants.{Store}
use Rattle.ct_pm.specs.Images.{History, at, first, reads, words_after}
use Rattle.ct_pm.specs.Device.{StoresOnly, EachStoresOver, StoresOver}
use Rattle.ct_pm.proofs.Steps.{first-push}
use Rattle.ct_pm.proofs.Over.{longer, reads_longer, at-push}

-- after all steps there is no further one
first_more : (k : ℕ) (steps : List Step) → length steps ≤ k → first k steps ≡ steps
first_more k steps past = let none : length steps - k ≡ 0 = omega arith in rw none refl

no_further : (k : ℕ) (step : Step) (steps : List Step) → length steps ≤ k → first (k + 1) steps ≡ step ∷ first k steps → ⊥
no_further k step steps past is =
    let same : steps ≡ step ∷ steps = sym (first_more (k + 1) steps (omega arith)) ∙ is ∙ ap (λ (l : List Step). step ∷ l) (first_more k steps past) in
    omega (arith, ap length same)

each_at : (R : List ℕ → ℕ → ℕ → Type 0) (past : History) (added : List Step) (k word value : ℕ) → length past.steps ≤ k → EachStoresOver R past added
    → first (k + 1) (added ++ past.steps) ≡ Store word value ∷ first k (added ++ past.steps) → R (reads (at k (longer past added))) word value
each_at R past [] k word value from each is = absurd (no_further k (Store word value) past.steps from is)
each_at R past (step ∷ added) k word value from each is =
    let h = longer past added in
    let steps : List Step = added ++ past.steps in
    elim (cases_lt k (length steps)) [
      | inl before ↦
          let rest : first (k + 1) steps ≡ Store word value ∷ first k steps =
          sym (first-push (k + 1) step steps (omega (arith, before))) ∙ is ∙ ap (λ (l : List Step). Store word value ∷ l) (first-push k step steps (omega (arith, before))) in
          subst (λ (x : History). R (reads x) word value) (sym (at-push k step h (omega (arith, before)))) (each_at R past added k word value from each.1 rest)
      | inr all ↦ elim (cases_lt (length steps) k) [
        | inl past_it ↦ absurd (no_further k (Store word value) (step ∷ steps) (omega (arith, past_it)) is)
        | inr here ↦
            let k_is : k ≡ length steps = omega (arith, all, here) in
            let whole : first (k + 1) (step ∷ steps) ≡ step ∷ steps = first_more (k + 1) (step ∷ steps) (omega (arith, k_is)) in
            let part : first k (step ∷ steps) ≡ steps = first-push k step steps (omega (arith, k_is)) ∙ first_more k steps (omega (arith, k_is)) in
            let both : step ∷ steps ≡ Store word value ∷ steps = sym whole ∙ is ∙ ap (λ (l : List Step). Store word value ∷ l) part in
            let step_is : step ≡ Store word value = cc in
            let now : R (words_after (reads past) added) word value = subst (StoresOnly (R (words_after (reads past) added))) step_is each.0 in
            let moment : at k (longer past (step ∷ added)) ≡ h = at-push k step h (omega (arith, k_is)) ∙ ap (λ (s : List Step). record { start = past.start; steps = s }) (first_more k steps (omega (arith, k_is))) in
            subst (λ (l : List ℕ). R l word value) (sym (ap reads moment ∙ reads_longer past added)) now
      ]
    ]

-- a step after the begin of the stretch stores over what reads at the moment before it
pub over_at : {R : List ℕ → ℕ → ℕ → Type 0} (past h : History) (k word value : ℕ) → StoresOver R (Some past) (Some h) → length past.steps ≤ k
    → first (k + 1) h.steps ≡ Store word value ∷ first k h.steps → R (reads (at k h)) word value
over_at {R = R} past h k word value over from is =
    let same : h ≡ longer past over.added = same_Some _ _ over.goes_on in
    let there : first (k + 1) (over.added ++ past.steps) ≡ Store word value ∷ first k (over.added ++ past.steps) =
    subst (λ (x : History). first (k + 1) x.steps ≡ Store word value ∷ first k x.steps) same is in
    subst (λ (x : History). R (reads (at k x)) word value) (sym same) (each_at R past over.added k word value from over.each there)
