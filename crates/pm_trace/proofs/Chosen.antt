-- The image that is chosen is allowed, and each allowed image can be chosen.
use Rattle.std.proofs.Common.{◌≡◌, ℕ, ◌-◌, ◌*◌, ◌/◌, ◌<◌, min, max, List, [], ◌∷◌, length, map, take, get_or, reverse, refl, sym, ◌∙◌, ap, inl, inr, arith}
use Rattle.std.proofs.lemmas.Bool.{cases_lt}
use Rattle.std.specs.List.{range_with_len}
use Rattle.std.proofs.lemmas.List.FromFn.{get_or-map-range_with_len, length-map-range_with_len}
use Rattle.std.proofs.lemmas.List.{get_or_past, length-reverse, ext_get_or}
use Rattle.ct_pm.specs.declared.step.Step.{Step}
use Rattle.ct_pm.specs.Images.{History, at, reads, first, floor, last, flushes, is_fence, words_after, IsAllowed, IsSettled}
use Rattle.ct_pm.proofs.Steps.{floor_within, length-words_after}
use Rattle.pm_trace.specs.Crash.{shown, AreSteps, IsChosen, AreLastFlushes, AreShown, AreReplayed}
use Rattle.pm_trace.proofs.Reversed.{first-reverse}

pub chosen_allowed : (choice : List ℕ) (h : History) (image : List ℕ) → IsChosen choice h image → IsAllowed h image
chosen_allowed choice h image chosen = record {
  size = chosen.size;
  lines = λ line. let within = floor_within line h.steps in (shown choice h line, omega arith, omega arith, chosen.lines line);
}

pub replayed_chosen : (choice start image until floors : List ℕ) (steps : List Step) (fence lines : ℕ) → fence ≡ last is_fence (reverse steps) → length start ≡ 8 * lines
    → AreLastFlushes (take fence steps) lines floors → AreShown choice (length steps) floors until → AreReplayed steps until start image
    → IsChosen choice (record { start = start; steps = reverse steps }) image
replayed_chosen choice start image until floors steps fence lines is size flushed are replayed =
    let h : History = record { start = start; steps = reverse steps } in
    record {
      size = replayed.size;
      lines = λ line word on_line. elim (cases_lt word (length start)) [
        | inl within ↦
            let on : line < lines = omega arith in
            let low : floor line h.steps ≡ get_or floors line 0 =
            ap (λ (n : ℕ). last (flushes line) (first n (reverse steps))) (sym is) ∙ ap (last (flushes line)) (first-reverse fence steps) ∙ sym (flushed.each line on) in
            let clock : length (reverse steps) ≡ length steps = length-reverse steps in
            let same : get_or until line 0 ≡ shown choice h line =
            are.each line (omega (arith, flushed.size)) ∙ ap (λ (n : ℕ). max n (min (get_or choice line (length steps)) (length steps))) (sym low)
            ∙ ap (λ (n : ℕ). max (floor line h.steps) (min (get_or choice line n) n)) (sym clock) in
            replayed.each word within ∙ ap (λ (l : ℕ). get_or (words_after start (first (get_or until l 0) (reverse steps))) word 0) on_line
            ∙ ap (λ (n : ℕ). get_or (words_after start (first n (reverse steps))) word 0) same
        | inr past ↦
            get_or_past image word 0 (omega (arith, replayed.size))
            ∙ sym (get_or_past (reads (at (shown choice h line) h)) word 0 (omega (arith, length-words_after start (first (shown choice h line) (reverse steps)))))
      ];
    }

-- with no steps only the start words are allowed
pub settled_start : (start : List ℕ) (steps : List Step) → steps ≡ [] → IsSettled (record { start = start; steps = steps })
settled_start start [] none image allowed =
    ext_get_or 0 image start allowed.size (λ word within.
    let shows = allowed.lines (word / 8) in
    let first_none : 0 - shows.0 ≡ 0 = omega arith in
    shows.3 word refl ∙ rw first_none refl)
settled_start start (step ∷ steps) none image allowed = absurd (cc none)

-- a list of choices gives one image
pub chosen_one : (choice : List ℕ) (h : History) (a b : List ℕ) → IsChosen choice h a → IsChosen choice h b → a ≡ b
chosen_one choice h a b first second =
    ext_get_or 0 a b (first.size ∙ sym second.size) (λ word within. first.lines (word / 8) word refl ∙ sym (second.lines (word / 8) word refl))

-- the choice that gives an allowed image
pub each_chosen : (h : History) (image : List ℕ) → IsAllowed h image → (choice : List ℕ) × AreSteps choice h × IsChosen choice h image
each_chosen h image allowed =
    let clock = length h.steps in
    let count = length h.start in
    let pick = λ (line : ℕ). (allowed.lines line).0 in
    let choice = map pick (range_with_len 0 count) in
    let picked : (line d : ℕ) → line < count → get_or choice line d ≡ pick line = λ line d within. get_or-map-range_with_len pick 0 count line line d (omega arith) (omega arith) in
    let size : length choice ≡ count = length-map-range_with_len pick 0 count in (
      choice,
      λ line. elim (cases_lt line count) [
        | inl within ↦ omega (arith, picked line 0 within, (allowed.lines line).2)
        | inr past ↦ omega (arith, get_or_past choice line 0 (omega (arith, size)))
      ],
      record {
        size = allowed.size;
        lines = λ line word on_line. elim (cases_lt word count) [
          | inl within ↦
              let shows = allowed.lines line in
              let same : shows.0 ≡ shown choice h line = omega (arith, shows.1, shows.2, picked line clock (omega arith)) in
              shows.3 word on_line ∙ ap (λ (n : ℕ). get_or (words_after h.start (first n h.steps)) word 0) same
          | inr past ↦
              get_or_past image word 0 (omega (arith, allowed.size))
              ∙ sym (get_or_past (reads (at (shown choice h line) h)) word 0 (omega (arith, length-words_after h.start (first (shown choice h line) h.steps))))
        ];
      },
    )
