-- The gate is opened.
use Rattle.std.proofs.Common.{◌≡◌, ◌≢◌, ◌⊎◌, ℕ, ◌+◌, ◌*◌, ◌/◌, ◌<◌, ◌≤◌, zero, suc, List, [], ◌∷◌, Option, Result, Ok, length, set, refl, sym, ◌∙◌, ap, ap₂, subst, inl, inr, arith}
use Rattle.std.specs.Prelude.{slice_index, OnOk}
use Rattle.std.proofs.lemmas.Bool.{cases_lt}
use Rattle.std.proofs.lemmas.List.{get_or-set_same, get_or-set_other}
use Rattle.std.proofs.Math.ListN.{length-set}
use Rattle.ct_pm.specs.declared.step.Step.{Step}
use Rattle.ct_pm.specs.declared.step.Step.TheVariants.{Store, Flush, Fence}
use Rattle.ct_pm.specs.Images.{History, SameLine}
use Rattle.ct_pm.specs.Device.{with_steps, flushes_of, AddsStep, EachNow, LeavesOnly, MakesOnly, NothingPending, WrittenBack, SameOff, QuietOff}
use Rattle.ct_pm.proofs.Told.{with_more, weaker, flushed, stored, stored_line}
use Rattle.ct_pm.proofs.Made.{makes_weaker}
use Rattle.ct_pm.proofs.Quiet.{same_off_set, back_store, back_flush, back_flushed}
use Rattle.ct_pm.proofs.Fence.{settled_by_fence}
use Rattle.ct_pm.proofs.OneWord.{Replays, on_device}
use Rattle.ct_base.specs.Settled.{HasFewPairs, with_pairs, pairs_at, pairs_behind, open_pairs, IsShut}
use Rattle.ct_record.specs.Record.{InRecord, SettlesTo, IsTouched, IsFull, IsAll, IsArmed, IsNoneOrAll}
use Rattle.ct_image.proofs.Pairs.{with_pairs_off, named_target, pairs_at_alike}
use Rattle.ct_record.proofs.Settles.{same_refl, same_sym, same_then, same_wider, settles_applied}
use Rattle.ct_record.proofs.Lawful.{shut_few}
use Rattle.ct_record.proofs.Moments.{quiet_keeps}
use Rattle.ct_record.proofs.Drafts.{settles_touched, shut_touched, touched_record}

-- the word lies in the lines that pairs may have been stored to
abbrev pub InLines : ℕ → ℕ → Type 0
InLines end word = (520 ≤ word) × (word < end)

pub in_lines : (end word : ℕ) → InLines end word ⊎ (InLines end word → ⊥)
in_lines end word = elim (cases_lt word 520) [
  | inl below ↦ inr (λ is. omega (arith, is.0))
  | inr from ↦ elim (cases_lt word end) [ inl within ↦ inl (from, within) | inr past ↦ inr (λ is. omega (arith, is.1)) ]
]

behind : (n : ℕ) (image : List ℕ) → 0 < n → pairs_behind n 0 image ≡ pairs_at 528 n image
behind zero image some = absurd (omega arith)
behind (suc n) image some = refl

module _ {from count end : ℕ} {words : List ℕ} (full : IsFull from count end words) where
  pub pairs_off : (word : ℕ) → word < 16896 → slice_index (with_pairs (pairs_at from count words) words) word ≡ slice_index words word
  pairs_off word below =
      with_pairs_off (pairs_at from count words) words word (λ named. let target = named_target from count words word full.targets named in omega (arith, target.0))

  pub armed_shut : IsShut (with_pairs (pairs_at from count words) words)
  armed_shut = (pairs_off 512 (omega arith) ∙ full.shut.0, pairs_off 527 (omega arith) ∙ full.shut.1)

  -- an image with the closed gates has none of the pairs
  pub none_open : (image : List ℕ) → SameOff (IsTouched end) words image → IsNoneOrAll (pairs_at from count words) words image
  none_open image same = inl (shut_touched end words image full.shut same, settles_touched end words image full.high full.shut same)

  pub none_few : (image : List ℕ) → SameOff (IsTouched end) words image → HasFewPairs count image
  none_few image same = shut_few count image (shut_touched end words image full.shut same)

  -- while the lines are flushed and fenced
  pub still : {old new : Option History} → EachNow old (SameOff (IsTouched end) words) → QuietOff (λ _. ⊥) old new → LeavesOnly old new (SameOff (IsTouched end) words)
  still now run = quiet_keeps (SameOff (IsTouched end) words) (λ image base moved is. same_then is (same_sym (same_wider (λ word none. absurd none) moved))) now run

  pub none_yet : {old new : Option History} → EachNow old (SameOff (IsTouched end) words) → QuietOff (λ _. ⊥) old new → LeavesOnly old new (IsNoneOrAll (pairs_at from count words) words)
  none_yet now run = weaker (IsNoneOrAll (pairs_at from count words) words) none_open (still now run)

  -- the record is lawful then
  pub none_lawful : {old new : Option History} → EachNow old (SameOff (IsTouched end) words) → QuietOff (λ _. ⊥) old new → LeavesOnly old new (HasFewPairs count)
  none_lawful now run = weaker (HasFewPairs count) none_few (still now run)

  -- an image whose record is open with the pairs
  pub opened_with : (image : List ℕ) → open_pairs image ≡ pairs_at from count words → SameOff InRecord image words → IsAll (pairs_at from count words) words image
  opened_with image is same = (is, settles_applied image words (pairs_at from count words) is armed_shut (same_wider (λ word inside. inl inside) same))

-- the long gate, stored where nothing is pending
module _ {count end : ℕ} {words : List ℕ} (full : IsFull 528 count end words) where
  -- the fence before the gate leaves nothing pending
  pub fenced_pairs : {T E : Type 0} {r : Result T E} {old mid new : Option History} → EachNow old (SameOff (IsTouched end) words) → QuietOff (λ _. ⊥) old mid → Replays mid words
      → ((word : ℕ) → InLines end word → WrittenBack mid (word / 8)) → AddsStep r Fence mid new → OnOk r (NothingPending new)
  fenced_pairs now run replays back adds =
      settled_by_fence (in_lines end)
      (weaker (λ image. SameOff (InLines end) image words) (λ image same. same_wider (λ word is. (is.0, is.1)) (same_sym same)) (still full now run))
      (same_refl words) replays back adds

  gate : slice_index (set words 512 count) 512 ≡ count
  gate = get_or-set_same words 512 count 0 (omega (arith, full.pages.0, full.pages.1))

  off_gate : (word : ℕ) → word ≢ 512 → slice_index (set words 512 count) word ≡ slice_index words word
  off_gate word ne = get_or-set_other words 512 word count 0 ne

  short : slice_index (set words 512 count) 527 ≡ 0
  short = off_gate 527 (λ is. omega arith) ∙ full.shut.1

  armed_pairs : open_pairs (set words 512 count) ≡ pairs_at 528 count words
  armed_pairs =
      ap₂ (λ (l s : ℕ). pairs_behind l s (set words 512 count)) (gate) short ∙ behind count (set words 512 count) full.some
      ∙ pairs_at_alike 528 count (set words 512 count) words (λ word low high. off_gate word (λ is. omega arith))

  pub long_armed : IsArmed (pairs_at 528 count words) words (set words 512 count)
  long_armed =
      let new = set words 512 count in
      let two : slice_index new 2 ≡ slice_index words 2 = off_gate 2 (λ is. omega arith) in
      record {
        pages = (omega (arith, full.pages.0), omega (arith, full.pages.1, length-set words 512 count));
        lawful = record {
          long = omega (arith, gate, full.few);
          short = omega (arith, short);
          one = λ some. short;
          long_targets = λ k below.
              let target = full.targets k (omega (arith, gate)) in
              let there : slice_index new (528 + 2 * k) ≡ slice_index words (528 + 2 * k) = off_gate (528 + 2 * k) (λ is. omega arith) in
              (omega (arith, target.0), omega (arith, target.1));
          short_targets = λ k below. absurd (omega (arith, short));
        };
        opened = omega (arith, gate, short, full.some);
        all = opened_with full new armed_pairs (same_off_set InRecord words words 512 count (omega arith, omega arith) (same_refl words));
      }

  -- the gate is open or closed
  pub gate_moves : (image : List ℕ) → (image ≡ words) ⊎ (image ≡ set words 512 count) → IsNoneOrAll (pairs_at 528 count words) words image
  gate_moves image (inl is) = inl (subst IsShut (sym is) full.shut, subst (SettlesTo words) (sym is) (same_refl _))
  gate_moves image (inr is) = inr (subst (IsAll (pairs_at 528 count words) words) (sym is) long_armed.all)

  -- and the record is lawful either way
  pub gate_lawful : (image : List ℕ) → (image ≡ words) ⊎ (image ≡ set words 512 count) → HasFewPairs count image
  gate_lawful image (inl is) = subst (HasFewPairs count) (sym is) (shut_few count words full.shut)
  gate_lawful image (inr is) = subst (HasFewPairs count) (sym is) (record { lawful = long_armed.lawful; few = omega (arith, gate) })

-- the short gate, stored behind pairs of its line that are not fenced
module _ {count end : ℕ} {words : List ℕ} (full : IsFull 520 count end words) (few : count ≤ 3) where
  -- an image that has the line as it reads, with the gate
  module _ (base : List ℕ) (same : SameOff (IsTouched end) words base) (line : SameLine 65 base words) where
    open_gate : slice_index (set base 527 count) 527 ≡ count
    open_gate = get_or-set_same base 527 count 0 (omega (arith, full.pages.0, full.pages.1, same.size))

    open_long : slice_index (set base 527 count) 512 ≡ 0
    open_long = get_or-set_other base 527 512 count 0 (λ is. omega arith) ∙ sym (same.others 512 (λ is. omega (arith, is.0))) ∙ full.shut.0

    open_line : (word : ℕ) → 520 ≤ word → word < 527 → slice_index (set base 527 count) word ≡ slice_index words word
    open_line word low high = get_or-set_other base 527 word count 0 (λ is. omega arith) ∙ line word (omega arith)

    open_two : slice_index (set base 527 count) 2 ≡ slice_index words 2
    open_two = get_or-set_other base 527 2 count 0 (λ is. omega arith) ∙ sym (same.others 2 (λ is. omega (arith, is.0)))

    pub short_armed : IsArmed (pairs_at 520 count words) words (set base 527 count)
    short_armed =
        let new = set base 527 count in
        record {
          pages = (omega (arith, full.pages.0, open_two), omega (arith, full.pages.1, open_two, same.size, length-set base 527 count));
          lawful = record {
            long = omega (arith, open_long);
            short = omega (arith, open_gate, few);
            one = λ some. absurd (omega (arith, some, open_long));
            long_targets = λ k below. absurd (omega (arith, below, open_long));
            short_targets = λ k below.
                let target = full.targets k (omega (arith, below, open_gate)) in
                let there : slice_index new (520 + 2 * k) ≡ slice_index words (520 + 2 * k) = open_line (520 + 2 * k) (omega arith) (omega (arith, below, open_gate, few)) in
                (omega (arith, target.0, there), omega (arith, target.1, there, open_two));
          };
          opened = omega (arith, open_gate, full.some);
          all = opened_with full new
              (ap₂ (λ (l s : ℕ). pairs_behind l s new) open_long open_gate ∙ pairs_at_alike 520 count new words (λ word low high. open_line word low (omega (arith, high, few))))
              (same_off_set InRecord base words 527 count (omega arith, omega arith) (same_wider (λ word is. touched_record end word full.high is) (same_sym same)));
        }

    pub short_few : HasFewPairs count (set base 527 count)
    short_few = record { lawful = short_armed.lawful; few = omega (arith, open_long) }

  within : 527 < length words
  within = omega (arith, full.pages.0, full.pages.1)

  -- the store of the gate
  pub short_stored : {T E : Type 0} {r : Result T E} {old mid new : Option History} → EachNow old (SameOff (IsTouched end) words) → QuietOff (λ _. ⊥) old mid → Replays mid words → AddsStep r (Store 527 count) mid new
      → LeavesOnly old new (IsNoneOrAll (pairs_at 520 count words) words)
  short_stored {mid = mid} now run replays adds =
      stored_line words (IsNoneOrAll (pairs_at 520 count words) words) (still full now run) adds (on_device mid words 527 replays within) replays
      (λ base same. (none_open full base same, λ line. inr (short_armed base same line).all))

  pub short_lawful : {T E : Type 0} {r : Result T E} {old mid new : Option History} → EachNow old (SameOff (IsTouched end) words) → QuietOff (λ _. ⊥) old mid → Replays mid words → AddsStep r (Store 527 count) mid new
      → LeavesOnly old new (HasFewPairs count)
  short_lawful {mid = mid} now run replays adds =
      stored_line words (HasFewPairs count) (still full now run) adds (on_device mid words 527 replays within) replays
      (λ base same. (none_few full base same, λ line. short_few base same line))

  -- as the words read
  pub short_reads : IsArmed (pairs_at 520 count words) words (set words 527 count)
  short_reads = short_armed words (same_refl words) (λ word is. refl)

  -- after the flush a fence leaves nothing pending
  pub short_fenced : {S F T E : Type 0} {put : Result S F} {r : Result T E} {old mid next last new : Option History} {done : S} (now : List ℕ) → EachNow old (SameOff (IsTouched end) words) → QuietOff (λ _. ⊥) old mid → Replays mid words
      → now ≡ set words 527 count → Replays last now → AddsStep put (Store 527 count) mid next → AddsStep {T = S} {E = F} (Ok done) (Flush 65) next last
      → ((line : ℕ) → 66 ≤ line → 8 * line < end → WrittenBack mid line) → AddsStep r Fence last new → OnOk r (NothingPending new)
  short_fenced {S = S} {F = F} {put = put} {mid = mid} {last = last} {done = done} now images run replays is shows first second back third =
      let Moved : ℕ → Type 0 = InLines end in
      let P : List ℕ → Type 0 = λ image. SameOff Moved image words in
      settled_by_fence (in_lines end)
      (flushed
      (stored P (still full images run) first (on_device mid words 527 replays within)
      (λ base same. let wide : SameOff Moved base words = same_wider (λ word in_touched. (in_touched.0, in_touched.1)) (same_sym same) in (wide, same_off_set Moved base words 527 count (omega arith, omega (arith, full.low)) wide))) second)
      (subst P (sym is) (same_off_set Moved words words 527 count (omega arith, omega (arith, full.low)) (same_refl words))) shows
      (λ word inside. elim (cases_lt word 528) [
        | inl low ↦ let line : 65 ≡ word / 8 = omega (arith, inside.0) in subst (WrittenBack last) line (back_flushed {T = S} {E = F} {done = done} second)
        | inr past ↦
            let line : 66 ≤ word / 8 = omega arith in
            back_flush {T = S} {E = F} (Ok done) (word / 8) second (back_store put (word / 8) first (λ same. omega (arith, same, line)) (back (word / 8) line (omega (arith, inside.1))))
      ]) third

-- three steps behind no flush
pub three_steps : (old : Option History) (first second third : Step) (lines : ℕ) {one two three new : Option History} → lines ≡ 0 → one ≡ with_steps (flushes_of 66 lines) old → two ≡ with_steps (first ∷ []) one → three ≡ with_steps (second ∷ []) two
    → new ≡ with_steps (third ∷ []) three → new ≡ with_steps (third ∷ second ∷ first ∷ []) old
three_steps old first second third lines none none_yet one two three =
    let here = none_yet ∙ ap (λ (n : ℕ). with_steps (flushes_of 66 n) old) none in
    three ∙ ap (with_steps (third ∷ [])) two ∙ ap (λ h. with_steps (third ∷ []) (with_steps (second ∷ []) h)) (one ∙ ap (with_steps (first ∷ [])) here)
    ∙ ap (λ h. with_steps (third ∷ []) (with_steps (second ∷ []) h)) (with_more old [] (first ∷ []))
    ∙ ap (with_steps (third ∷ [])) (with_more old (first ∷ []) (second ∷ [])) ∙ with_more old (second ∷ first ∷ []) (third ∷ [])

-- flushes store nothing
pub stores_none : {old new : Option History} (P : ℕ → ℕ → Type 0) → MakesOnly (λ word value. ⊥) old new → MakesOnly P old new
stores_none P made = makes_weaker P (λ word value none. absurd none) made
