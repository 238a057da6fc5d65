-- Where nothing is pending no line is marked.
use Rattle.std.proofs.Common.{◌≡◌, ◌≢◌, ℕ, ◌+◌, ◌*◌, ◌/◌, ◌<◌, ◌≤◌, true, false, ◌==◌, if◌then◌else◌, List, [], ◌∷◌, length, map, get_or, refl, sym, ◌∙◌, ap, inl, inr, arith}
use Rattle.std.specs.List.{range_with_len}
use Rattle.std.proofs.lemmas.Bool.{cases_Bool, cases_lt, true≢false}
use Rattle.std.proofs.lemmas.Bool.Decides.{eqb_tells}
use Rattle.std.proofs.lemmas.List.{get_or_past, get_or-set_same}
use Rattle.std.proofs.lemmas.List.FromFn.{get_or-map-range_with_len, length-map-range_with_len}
use Rattle.ct_pm.specs.Images.{first, floor, flushes, last, words_after, IsAllowed, IsSettled}
use Rattle.ct_pm.specs.declared.step.Step.{Step}
use Rattle.ct_pm.specs.declared.step.Step.TheVariants.{Store, Flush, Fence}
use Rattle.ct_pm.proofs.Steps.{first_all, first-push, floor_within, floor_within_flush, last_within, length-words_after}
use Rattle.pm_outbox.proofs.Medium.{all_of}
use Rattle.pm_outbox.specs.Asked.{changes, is_marked}

-- a step after the line's last flush changes a word of it
record Moved (start : List ℕ) (steps : List Step) (line : ℕ) : Type 0 where
  before : ℕ
  since : last (flushes line) steps ≤ before
  within : before < length steps
  word : ℕ
  on_line : word / 8 ≡ line
  differs : get_or (words_after start (first before steps)) word 0 ≢ get_or (words_after start (first (before + 1) steps)) word 0

later : (start : List ℕ) (step : Step) (steps : List Step) (line : ℕ) → flushes line step ≡ false → Moved start steps line → Moved start (step ∷ steps) line
later start step steps line other m =
    let same : last (flushes line) (step ∷ steps) ≡ last (flushes line) steps = rw other refl in
    let reads = λ (s : List Step). get_or (words_after start s) m.word 0 in
    record {
      before = m.before;
      since = omega (arith, same, m.since);
      within = omega (arith, m.within);
      word = m.word;
      on_line = m.on_line;
      differs = λ is. m.differs (
          ap reads (sym (first-push m.before step steps (omega (arith, m.within))))
          ∙ is
          ∙ ap reads (first-push (m.before + 1) step steps (omega (arith, m.within)))
          );
    }

-- the newest step does
now_moved : (start : List ℕ) (word value : ℕ) (steps : List Step) (line : ℕ) → word / 8 ≡ line → word < length start → get_or (words_after start steps) word 0 ≢ value → Moved start (Store word value ∷ steps) line
now_moved start word value steps line on_line within other =
    let reads = λ (s : List Step). get_or (words_after start s) word 0 in
    record {
      before = length steps;
      since = last_within (flushes line) steps;
      within = omega arith;
      word = word;
      on_line = on_line;
      differs = λ is. other (
          ap reads (sym (first-push (length steps) (Store word value) steps (omega arith) ∙ first_all steps))
          ∙ is
          ∙ ap reads (all_of (Store word value) steps)
          ∙ get_or-set_same (words_after start steps) word value 0 (omega (arith, within, length-words_after start steps))
          );
    }

store_moved : (start : List ℕ) (word value : ℕ) (steps : List Step) (line : ℕ) → 8 * line + 8 ≤ length start → changes (words_after start steps) word value line ≡ true → Moved start (Store word value ∷ steps) line
store_moved start word value steps line whole changed = elim (eqb_tells (word / 8) line) [
  | inl on ↦ elim (eqb_tells (get_or (words_after start steps) word 0) value) [
    | inl is ↦ let same : changes (words_after start steps) word value line ≡ false = rw (on.0, is.0) refl in absurd (true≢false (sym changed ∙ same))
    | inr other ↦ now_moved start word value steps line on.1 (omega (arith, on.1, whole)) other.1
  ]
  | inr off ↦ let same : changes (words_after start steps) word value line ≡ false = rw off.0 refl in absurd (true≢false (sym changed ∙ same))
]

moved : (start : List ℕ) (steps : List Step) (line : ℕ) → 8 * line + 8 ≤ length start → is_marked start steps line ≡ true → Moved start steps line
moved start [] line whole marked = absurd (true≢false (sym marked))
moved start (Store word value ∷ steps) line whole marked = elim (cases_Bool (changes (words_after start steps) word value line)) [
  | inl changed ↦ store_moved start word value steps line whole changed
  | inr same ↦
      let before : is_marked start (Store word value ∷ steps) line ≡ is_marked start steps line = rw same refl in
      later start (Store word value) steps line refl (moved start steps line whole (sym before ∙ marked))
]
moved start (Flush flushed ∷ steps) line whole marked = elim (eqb_tells flushed line) [
  | inl same ↦ let none : is_marked start (Flush flushed ∷ steps) line ≡ false = rw same.0 refl in absurd (true≢false (sym marked ∙ none))
  | inr other ↦
      let before : is_marked start (Flush flushed ∷ steps) line ≡ is_marked start steps line = rw other.0 refl in
      later start (Flush flushed) steps line other.0 (moved start steps line whole (sym before ∙ marked))
]
moved start (Fence ∷ steps) line whole marked = later start Fence steps line refl (moved start steps line whole marked)

-- one line of these words, and the others of those
abbrev spliced : ℕ → List ℕ → List ℕ → List ℕ
spliced line inner outer = map (λ word. if word / 8 == line then get_or inner word 0 else get_or outer word 0) (range_with_len 0 (length outer))

spliced_at : (line : ℕ) (inner outer : List ℕ) (word : ℕ) → word < length outer
    → get_or (spliced line inner outer) word 0 ≡ (if word / 8 == line then get_or inner word 0 else get_or outer word 0)
spliced_at line inner outer word within =
    get_or-map-range_with_len (λ word. if word / 8 == line then get_or inner word 0 else get_or outer word 0) 0 (length outer) word word 0 within (omega arith)

spliced_on : (line : ℕ) (inner outer : List ℕ) (word : ℕ) → length inner ≡ length outer → word / 8 ≡ line → get_or (spliced line inner outer) word 0 ≡ get_or inner word 0
spliced_on line inner outer word size on = elim (cases_lt word (length outer)) [
  | inl within ↦ elim (eqb_tells (word / 8) line) [
    | inl is ↦ spliced_at line inner outer word within ∙ rw is.0 refl
    | inr other ↦ absurd (other.1 on)
  ]
  | inr past ↦
      get_or_past (spliced line inner outer) word 0 (omega (arith, past, length-map-range_with_len (λ word. if word / 8 == line then get_or inner word 0 else get_or outer word 0) 0 (length outer)))
      ∙ sym (get_or_past inner word 0 (omega (arith, past, size)))
]

spliced_off : (line : ℕ) (inner outer : List ℕ) (word : ℕ) → word / 8 ≢ line → get_or (spliced line inner outer) word 0 ≡ get_or outer word 0
spliced_off line inner outer word off = elim (cases_lt word (length outer)) [
  | inl within ↦ elim (eqb_tells (word / 8) line) [
    | inl is ↦ absurd (off is.1)
    | inr other ↦ spliced_at line inner outer word within ∙ rw other.0 refl
  ]
  | inr past ↦
      get_or_past (spliced line inner outer) word 0 (omega (arith, past, length-map-range_with_len (λ word. if word / 8 == line then get_or inner word 0 else get_or outer word 0) 0 (length outer)))
      ∙ sym (get_or_past outer word 0 past)
]

-- a crash may leave one line as it was at any step from its floor on, and the others as they read
spliced_allowed : (start : List ℕ) (steps : List Step) (line j : ℕ) → floor line steps ≤ j → j ≤ length steps
    → IsAllowed (record { start = start; steps = steps }) (spliced line (words_after start (first j steps)) (words_after start steps))
spliced_allowed start steps line j low high =
    let inner = words_after start (first j steps) in
    let outer = words_after start steps in
    let size : length inner ≡ length outer = length-words_after start (first j steps) ∙ sym (length-words_after start steps) in
    record {
      size = length-map-range_with_len (λ word. if word / 8 == line then get_or inner word 0 else get_or outer word 0) 0 (length outer) ∙ length-words_after start steps;
      lines = λ at. elim (eqb_tells at line) [
        | inl same ↦ (j, omega (arith, low, ap (λ (l : ℕ). floor l steps) same.1), high, λ word on. spliced_on line inner outer word size (on ∙ same.1))
        | inr other ↦ (
          length steps,
          floor_within at steps,
          omega arith,
          λ word on. spliced_off line inner outer word (λ is. other.1 (sym on ∙ is)) ∙ ap (λ (s : List Step). get_or (words_after start s) word 0) (sym (first_all steps)),
        )
      ];
    }

-- where nothing is pending a line reads as it did at each step from its floor on
settled_line : (start : List ℕ) (steps : List Step) (line j : ℕ) → IsSettled (record { start = start; steps = steps }) → floor line steps ≤ j → j ≤ length steps → (word : ℕ) → word / 8 ≡ line
    → get_or (words_after start (first j steps)) word 0 ≡ get_or (words_after start steps) word 0
settled_line start steps line j settled low high word on =
    let inner = words_after start (first j steps) in
    let outer = words_after start steps in
    sym (spliced_on line inner outer word (length-words_after start (first j steps) ∙ sym (length-words_after start steps)) on)
    ∙ ap (λ (l : List ℕ). get_or l word 0) (settled (spliced line inner outer) (spliced_allowed start steps line j low high))

pub none_marked : (start : List ℕ) (steps : List Step) (line : ℕ) → IsSettled (record { start = start; steps = steps }) → 8 * line + 8 ≤ length start → is_marked start steps line ≡ false
none_marked start steps line settled whole = elim (cases_Bool (is_marked start steps line)) [
  | inl marked ↦
      let m = moved start steps line whole marked in
      let low = floor_within_flush line steps in
      absurd (m.differs (
      settled_line start steps line m.before settled (omega (arith, low, m.since)) (omega (arith, m.within)) m.word m.on_line
      ∙ sym (settled_line start steps line (m.before + 1) settled (omega (arith, low, m.since)) (omega (arith, m.within)) m.word m.on_line)
      ))
  | inr none ↦ none
]
