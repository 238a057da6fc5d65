-- A medium that sees what is asked of it holds what the line model allows.
use Rattle.std.proofs.Common.{◌≡◌, ℕ, zero, suc, ◌≢◌, ◌+◌, ◌-◌, ◌*◌, ◌/◌, ◌%◌, ◌<◌, ◌≤◌, Bool, true, false, if◌then◌else◌, List, [], ◌∷◌, ◌++◌, length, get_or, set, refl, sym, ◌∙◌, ap, subst, inl, inr, arith}
use Rattle.std.proofs.Common.{reverse}
use Rattle.std.proofs.lemmas.Bool.{cases_Bool, true≢false}
use Rattle.std.proofs.lemmas.Bool.Decides.{eqb_tells}
use Rattle.std.proofs.lemmas.List.{ext_get_or, get_or-set_other, reverse-append, set-get_or}
use Rattle.ct_pm.specs.Images.{first, floor, flushes, last, reads, words_after, IsAllowed, SameLine}
use Rattle.ct_pm.specs.declared.step.Step.{Step}
use Rattle.ct_pm.specs.declared.step.Step.TheVariants.{Store, Flush, Fence}
use Rattle.ct_pm.proofs.Steps.{first_all, first-push, floor-fence, floor-other, floor_within, last_within}
use Rattle.pm_outbox.specs.Asked.{asked, changes, is_marked}
use Rattle.pm_outbox.specs.Lines.{line_at}
use Rattle.pm_outbox.specs.declared.ask.Ask.{Ask}
use Rattle.pm_outbox.specs.declared.ask.Ask.TheVariants.{Write, Sync}
use Rattle.pm_outbox.specs.Medium.{newest, written, MayHold, MayRead}

-- the words of a line are the line's
line_word : (words : List ℕ) (line r : ℕ) → r < 8 → get_or (line_at words line) r 0 ≡ get_or words (8 * line + r) 0
line_word words line zero small = ap (λ (k : ℕ). get_or words k 0) (omega arith)
line_word words line (suc zero) small = refl
line_word words line (suc (suc zero)) small = refl
line_word words line (suc (suc (suc zero))) small = refl
line_word words line (suc (suc (suc (suc zero)))) small = refl
line_word words line (suc (suc (suc (suc (suc zero))))) small = refl
line_word words line (suc (suc (suc (suc (suc (suc zero)))))) small = refl
line_word words line (suc (suc (suc (suc (suc (suc (suc zero))))))) small = refl
line_word words line (suc (suc (suc (suc (suc (suc (suc (suc r)))))))) small = absurd (omega (arith, small))

same_line : (line : ℕ) (a b : List ℕ) → line_at a line ≡ line_at b line → SameLine line a b
same_line line a b same word is =
    let within : word % 8 < 8 = omega arith in
    let place : 8 * line + word % 8 ≡ word = omega (arith, is) in
    ap (λ (k : ℕ). get_or a k 0) (sym place) ∙ sym (line_word a line (word % 8) within) ∙ ap (λ (xs : List ℕ). get_or xs (word % 8) 0) same
    ∙ line_word b line (word % 8) within ∙ ap (λ (k : ℕ). get_or b k 0) place

lines_same : (line : ℕ) (a b : List ℕ) → ((r : ℕ) → r < 8 → get_or a (8 * line + r) 0 ≡ get_or b (8 * line + r) 0) → line_at a line ≡ line_at b line
lines_same line a b same = ext_get_or 0 (line_at a line) (line_at b line) refl (λ r within.
    let small : r < 8 = omega (arith, within) in
    line_word a line r small ∙ same r small ∙ sym (line_word b line r small))

-- a store that changes no word of a line leaves it
unchanged : (line : ℕ) (words : List ℕ) (word value : ℕ) → changes words word value line ≡ false → line_at (set words word value) line ≡ line_at words line
unchanged line words word value same = elim (eqb_tells (word / 8) line) [
  | inl on ↦ elim (eqb_tells (get_or words word 0) value) [
    | inl is ↦ ap (λ (v : ℕ). line_at (set words word v) line) (sym is.1) ∙ ap (λ (ws : List ℕ). line_at ws line) (set-get_or words word 0)
    | inr other ↦ let marks : changes words word value line ≡ true = rw (on.0, other.0) refl in absurd (true≢false (sym marks ∙ same))
  ]
  | inr off ↦ lines_same line (set words word value) words (λ r small.
      let ne : 8 * line + r ≢ word = λ is. off.1 (omega (arith, is, small)) in
      get_or-set_other words word (8 * line + r) value 0 ne)
]

pub all_of : (step : Step) (steps : List Step) → first (length steps + 1) (step ∷ steps) ≡ step ∷ steps
all_of step steps = let none : length (step ∷ steps) - (length steps + 1) ≡ 0 = omega arith in rw none refl

-- the line at its last flush
abbrev flushed_line : List ℕ → List Step → ℕ → List ℕ
flushed_line start steps line = line_at (words_after start (first (last (flushes line) steps) steps)) line

-- no step but a flush of the line moves its last flush
not_moved : (start : List ℕ) (step : Step) (steps : List Step) (line : ℕ) → flushes line step ≡ false → flushed_line start (step ∷ steps) line ≡ flushed_line start steps line
not_moved start step steps line other =
    let same : last (flushes line) (step ∷ steps) ≡ last (flushes line) steps = rw other refl in
    rw same (ap (λ (s : List Step). line_at (words_after start s) line) (first-push (last (flushes line) steps) step steps (last_within (flushes line) steps)))

-- an unmarked line reads as it was at its last flush
pub unmarked_same : (start : List ℕ) (steps : List Step) (line : ℕ) → is_marked start steps line ≡ false → line_at (words_after start steps) line ≡ flushed_line start steps line
unmarked_same start [] line none = refl
unmarked_same start (Store word value ∷ steps) line none = elim (cases_Bool (changes (words_after start steps) word value line)) [
  | inl changed ↦ let marked : is_marked start (Store word value ∷ steps) line ≡ true = rw changed refl in absurd (true≢false (sym marked ∙ none))
  | inr same ↦
      let before : is_marked start steps line ≡ false = sym (let e : is_marked start (Store word value ∷ steps) line ≡ is_marked start steps line = rw same refl in e) ∙ none in
      unchanged line (words_after start steps) word value same ∙ unmarked_same start steps line before ∙ sym (not_moved start (Store word value) steps line refl)
]
unmarked_same start (Flush flushed ∷ steps) line none = elim (eqb_tells flushed line) [
  | inl same ↦
      let here : last (flushes line) (Flush flushed ∷ steps) ≡ length steps + 1 = rw same.0 refl in
      rw here (ap (λ (s : List Step). line_at (words_after start s) line) (sym (all_of (Flush flushed) steps)))
  | inr other ↦
      let before : is_marked start steps line ≡ false = sym (let e : is_marked start (Flush flushed ∷ steps) line ≡ is_marked start steps line = rw other.0 refl in e) ∙ none in
      unmarked_same start steps line before ∙ sym (not_moved start (Flush flushed) steps line other.0)
]
unmarked_same start (Fence ∷ steps) line none = unmarked_same start steps line none ∙ sym (not_moved start Fence steps line refl)

-- what was written last is the line at its last flush
written_at : (start : List ℕ) (steps : List Step) (line : ℕ) → written start (newest start steps) line ≡ flushed_line start steps line
written_at start [] line = refl
written_at start (Store word value ∷ steps) line = written_at start steps line ∙ sym (not_moved start (Store word value) steps line refl)
written_at start (Fence ∷ steps) line = written_at start steps line ∙ sym (not_moved start Fence steps line refl)
written_at start (Flush flushed ∷ steps) line = elim (eqb_tells flushed line) [
  | inl same ↦
      let here : flushed_line start (Flush flushed ∷ steps) line ≡ line_at (words_after start steps) line =
      let at : last (flushes line) (Flush flushed ∷ steps) ≡ length steps + 1 = rw same.0 refl in
      rw at (ap (λ (s : List Step). line_at (words_after start s) line) (all_of (Flush flushed) steps)) in
      elim (cases_Bool (is_marked start steps flushed)) [
        | inl marked ↦
            let last_one : written start (newest start (Flush flushed ∷ steps)) line ≡ line_at (words_after start steps) flushed = rw (marked, same.0) refl in
            last_one ∙ ap (line_at (words_after start steps)) same.1 ∙ sym here
        | inr unmarked ↦
            let as_before : written start (newest start (Flush flushed ∷ steps)) line ≡ written start (newest start steps) line = rw unmarked refl in
            as_before ∙ written_at start steps line ∙ sym (unmarked_same start steps line (ap (is_marked start steps) (sym same.1) ∙ unmarked)) ∙ sym here
      ]
  | inr other ↦
      let on : written start (newest start steps) line ≡ flushed_line start (Flush flushed ∷ steps) line = written_at start steps line ∙ sym (not_moved start (Flush flushed) steps line other.0) in
      elim (cases_Bool (is_marked start steps flushed)) [
        | inl marked ↦
            let same : written start (newest start (Flush flushed ∷ steps)) line ≡ written start (newest start steps) line = rw (marked, other.0) refl in
            same ∙ on
        | inr unmarked ↦
            let same : written start (newest start (Flush flushed ∷ steps)) line ≡ written start (newest start steps) line = rw unmarked refl in
            same ∙ on
      ]
]

-- the line is as it was after some step from its floor on
abbrev Since : List ℕ → List Step → ℕ → List ℕ → Type 0
Since start steps line bytes = (j : ℕ) × (floor line steps ≤ j) × (j ≤ length steps) × (bytes ≡ line_at (words_after start (first j steps)) line)

later : (start : List ℕ) (step : Step) (steps : List Step) (line : ℕ) (bytes : List ℕ) → floor line (step ∷ steps) ≡ floor line steps → Since start steps line bytes → Since start (step ∷ steps) line bytes
later start step steps line bytes same since =
    (since.0, omega (arith, same, since.1), omega (arith, since.2), since.3 ∙ ap (λ (s : List Step). line_at (words_after start s) line) (sym (first-push since.0 step steps since.2)))

since_flush : (marked : Bool) (start : List ℕ) (flushed : ℕ) (steps : List Step) (line : ℕ) (bytes : List ℕ) → (MayRead start (newest start steps) line bytes → Since start steps line bytes)
    → MayRead start (if marked then Write flushed (line_at (words_after start steps) flushed) ∷ newest start steps else newest start steps) line bytes → Since start (Flush flushed ∷ steps) line bytes
since_flush true start flushed steps line bytes before (inl new) = (
  length (Flush flushed ∷ steps),
  floor_within line (Flush flushed ∷ steps),
  omega arith,
  new.1 ∙ ap (line_at (words_after start steps)) new.0 ∙ ap (λ (s : List Step). line_at (words_after start s) line) (sym (first_all (Flush flushed ∷ steps))),
)
since_flush true start flushed steps line bytes before (inr old) = later start (Flush flushed) steps line bytes (floor-other line (Flush flushed) steps refl) (before old)
since_flush false start flushed steps line bytes before old = later start (Flush flushed) steps line bytes (floor-other line (Flush flushed) steps refl) (before old)

since : (start : List ℕ) (steps : List Step) (line : ℕ) (bytes : List ℕ) → MayRead start (newest start steps) line bytes → Since start steps line bytes
since start [] line bytes is = (0, omega (arith, floor_within line []), omega arith, is)
since start (Store word value ∷ steps) line bytes reads = later start (Store word value) steps line bytes (floor-other line (Store word value) steps refl) (since start steps line bytes reads)
since start (Flush flushed ∷ steps) line bytes reads = since_flush (is_marked start steps flushed) start flushed steps line bytes (since start steps line bytes) reads
since start (Fence ∷ steps) line bytes is =
    let within = last_within (flushes line) steps in (
      last (flushes line) steps,
      omega (arith, floor-fence line steps),
      omega (arith, within),
      is ∙ written_at start steps line ∙ ap (λ (s : List Step). line_at (words_after start s) line) (sym (first-push (last (flushes line) steps) Fence steps within)),
    )

pub holds_allowed : (start : List ℕ) (steps : List Step) (image : List ℕ) → MayHold start (newest start steps) image → IsAllowed (record { start = start; steps = steps }) image
holds_allowed start steps image held = record {
  size = held.size;
  lines = λ line. let s = since start steps line (line_at image line) (held.lines line) in
      (s.0, s.1, s.2, same_line line image (words_after start (first s.0 steps)) s.3);
}

reversed_flush : (marked : Bool) (ask : Ask) (asks newest : List Ask) → reverse asks ≡ newest → reverse (if marked then asks ++ ask ∷ [] else asks) ≡ (if marked then ask ∷ newest else newest)
reversed_flush true ask asks newest is = reverse-append asks (ask ∷ []) ∙ ap (λ (others : List Ask). ask ∷ others) is
reversed_flush false ask asks newest is = is

-- both orders are one list
pub reversed : (start : List ℕ) (steps : List Step) → reverse (asked start steps) ≡ newest start steps
reversed start [] = refl
reversed start (Store word value ∷ steps) = reversed start steps
reversed start (Flush line ∷ steps) = reversed_flush (is_marked start steps line) (Write line (line_at (words_after start steps) line)) (asked start steps) (newest start steps) (reversed start steps)
reversed start (Fence ∷ steps) = reverse-append (asked start steps) (Sync ∷ []) ∙ ap (λ (asks : List Ask). Sync ∷ asks) (reversed start steps)

pub asked_allowed : (start : List ℕ) (steps : List Step) (image : List ℕ) → MayHold start (reverse (asked start steps)) image → IsAllowed (record { start = start; steps = steps }) image
asked_allowed start steps image held = holds_allowed start steps image (subst (λ (asks : List Ask). MayHold start asks image) (reversed start steps) held)
