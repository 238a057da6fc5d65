-- What was asked first was asked by the first steps.
use Rattle.std.proofs.Common.{◌≡◌, ℕ, ◌≤◌, Bool, true, false, if◌then◌else◌, List, [], ◌∷◌, ◌++◌, length, take, reverse, refl, sym, ◌∙◌, ap, subst, inl, inr, arith, length-append}
use Rattle.std.proofs.Math.Seq.{take-append_seam}
use Rattle.std.proofs.lemmas.Bool.{cases_lt}
use Rattle.std.proofs.lemmas.List.{append-nil, append_assoc, take-append-le, take_all}
use Rattle.ct_pm.specs.Images.{first, words_after, WasAllowed}
use Rattle.ct_pm.specs.declared.step.Step.{Step}
use Rattle.ct_pm.specs.declared.step.Step.TheVariants.{Store, Flush, Fence}
use Rattle.ct_pm.proofs.Steps.{first_all, first-push}
use Rattle.pm_outbox.proofs.Medium.{asked_allowed}
use Rattle.pm_outbox.specs.Asked.{asked, is_marked}
use Rattle.pm_outbox.specs.Lines.{line_at}
use Rattle.pm_outbox.specs.declared.ask.Ask.{Ask}
use Rattle.pm_outbox.specs.declared.ask.Ask.TheVariants.{Write}
use Rattle.pm_outbox.specs.Medium.{MayHold}

behind_flush : (marked : Bool) (ask : Ask) (asks : List Ask) → (more : List Ask) × ((if marked then asks ++ ask ∷ [] else asks) ≡ asks ++ more) × (length more ≤ 1)
behind_flush true ask asks = (ask ∷ [], refl, omega arith)
behind_flush false ask asks = ([], sym (append-nil asks), omega arith)

-- what a step asks stands behind what was asked before it
behind : (start : List ℕ) (step : Step) (steps : List Step) → (more : List Ask) × (asked start (step ∷ steps) ≡ asked start steps ++ more) × (length more ≤ 1)
behind start (Store word value) steps = ([], sym (append-nil (asked start steps)), omega arith)
behind start (Flush line) steps = behind_flush (is_marked start steps line) (Write line (line_at (words_after start steps) line)) (asked start steps)
behind start Fence steps = (_, refl, omega arith)

pub grows : (start : List ℕ) (past added : List Step) → (more : List Ask) × (asked start (added ++ past) ≡ asked start past ++ more)
grows start past [] = ([], sym (append-nil (asked start past)))
grows start past (step ∷ added) =
    let before = grows start past added in
    let last = behind start step (added ++ past) in
    (before.0 ++ last.0, last.1 ∙ ap (λ (asks : List Ask). asks ++ last.0) before.1 ∙ append_assoc (asked start past) before.0 last.0)

pub stays : (start : List ℕ) (past added : List Step) → take (length (asked start past)) (asked start (added ++ past)) ≡ asked start past
stays start past added = let g = grows start past added in ap (take (length (asked start past))) g.1 ∙ take-append_seam (asked start past) g.0

pub no_fewer : (start : List ℕ) (past added : List Step) → length (asked start past) ≤ length (asked start (added ++ past))
no_fewer start past added = let g = grows start past added in omega (arith, ap (λ (asks : List Ask). length asks) g.1, length-append (asked start past) g.0)

-- a front of what was asked is what some of the first steps asked, and no fewer than those whose asks it has
pub front : (start : List ℕ) (past added : List Step) (count : ℕ) → length (asked start past) ≤ count
    → (m : ℕ) × (length past ≤ m) × (m ≤ length (added ++ past)) × (asked start (first m (added ++ past)) ≡ take count (asked start (added ++ past)))
front start past [] count le = (length past, omega arith, omega arith, ap (asked start) (first_all past) ∙ sym (take_all count (asked start past) le))
front start past (step ∷ added) count le =
    let last = behind start step (added ++ past) in
    elim (cases_lt count (length (asked start (step ∷ (added ++ past))))) [
      | inl some ↦
          let f = front start past added count le in
          let within : count ≤ length (asked start (added ++ past)) = omega (arith, some, ap (λ (asks : List Ask). length asks) last.1, length-append (asked start (added ++ past)) last.0, last.2) in (
            f.0,
            f.1,
            omega (arith, f.2),
            ap (asked start) (first-push f.0 step (added ++ past) f.2) ∙ f.3 ∙ sym (take-append-le count (asked start (added ++ past)) last.0 within) ∙ ap (take count) (sym last.1),
          )
      | inr all ↦ (
        length (step ∷ (added ++ past)),
        omega (arith, length-append added past),
        omega arith,
        ap (asked start) (first_all (step ∷ (added ++ past))) ∙ sym (take_all count (asked start (step ∷ (added ++ past))) all),
      )
    ]

pub since_allowed : (start : List ℕ) (past added : List Step) (count : ℕ) (image : List ℕ) → length (asked start past) ≤ count
    → MayHold start (reverse (take count (asked start (added ++ past)))) image → WasAllowed (length past) (record { start = start; steps = added ++ past }) image
since_allowed start past added count image le held =
    let f = front start past added count le in
    (f.0, f.1, f.2, asked_allowed start (first f.0 (added ++ past)) image (subst (λ (asks : List Ask). MayHold start (reverse asks) image) (sym f.3) held))

pub front_allowed : (start : List ℕ) (steps : List Step) (count : ℕ) (image : List ℕ) → MayHold start (reverse (take count (asked start steps))) image → WasAllowed 0 (record { start = start; steps = steps }) image
front_allowed start steps count image held =
    let all : steps ++ [] ≡ steps = append-nil steps in
    subst (λ (s : List Step). WasAllowed 0 (record { start = start; steps = s }) image) all
    (since_allowed start [] steps count image (omega arith) (subst (λ (s : List Step). MayHold start (reverse (take count (asked start s))) image) (sym all) held))
